-- Lemmas about the elements of a net with their states.
use Rattle.std.proofs.Common.{◌≡◌, ℕ, suc, ◌+◌, refl, sym, ap, ◌∙◌, arith, List, [], ◌∷◌, ◌++◌, length, add-zero}
use Rattle.click_classes.specs.declared.state.State.{State}
use Rattle.click_ports.specs.Net.{Net}
use Rattle.click_engine.specs.Plant.{element_of, elements_from}

pub elements_more : (net : Net) (at : ℕ) (ss : List State) (s : State)
    → elements_from net at (ss ++ s ∷ []) ≡ elements_from net at ss ++ element_of net (at + length ss) s ∷ []
elements_more net at [] s = ap (λ n. element_of net n s ∷ []) (sym (add-zero at))
elements_more net at (t ∷ ss) s =
    ap (λ es. element_of net at t ∷ es) (elements_more net (at + 1) ss s ∙ ap (λ n. elements_from net (at + 1) ss ++ element_of net n s ∷ []) (omega arith))

pub elements_length : (net : Net) (at : ℕ) (ss : List State) → length (elements_from net at ss) ≡ length ss
elements_length net at [] = refl
elements_length net at (s ∷ ss) = ap suc (elements_length net (at + 1) ss)

pub joined_on : {X : Type 0} (xs : List X) (x : X) (ys : List X) → xs ++ x ∷ ys ≡ (xs ++ x ∷ []) ++ ys
joined_on [] x ys = refl
joined_on (z ∷ xs) x ys = ap (λ zs. z ∷ zs) (joined_on xs x ys)

pub no_items : {X : Type 0} (xs : List X) → length xs ≡ 0 → xs ≡ []
no_items [] h = refl
no_items (x ∷ xs) h = absurd (omega (arith, h))
