-- Lemmas on the pairs of a query.
use Rattle.std.proofs.Common.{◌≡◌, ℕ, ◌+◌, List, [], ◌∷◌, ◌++◌, length, map, Bool, true, false, codes, bytes_eq, refl, sym, ap, ◌∙◌}
use Rattle.click_page.specs.Asking.{are_handlers, handlers_in}

pub first_is_no_handler : (name value : List ℕ) (rest : List (List ℕ × List ℕ)) → bytes_eq name (codes "handler") ≡ false
    → are_handlers ((name, value) ∷ rest) ≡ false
first_is_no_handler name value rest e = rw e refl
