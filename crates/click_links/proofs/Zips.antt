-- One more receiver in two lists that are related pairwise.
use Rattle.std.proofs.Common.{◌≡◌, List, [], ◌∷◌, ◌++◌, Option, Some, sym, subst, ap, ◌∙◌}
use Rattle.std.specs.Prelude.{option_to_list}
use Rattle.std.specs.List.{AllZip}
use Rattle.std.proofs.lemmas.List.Elements.{AllZip-push}

pub zip_more : {X : Type 0} (R : X → X → Type 0) (xs ys all done : List X) (x y : X) (r : Option X) → all ≡ xs ++ option_to_list r → r ≡ Some x → done ≡ ys ++ y ∷ []
    → AllZip R xs ys → R x y → AllZip R all done
zip_more {X} R xs ys all done x y r is one more zip both =
    let before : all ≡ xs ++ x ∷ [] = is ∙ ap (λ o. xs ++ option_to_list o) one in
    subst (λ (l : List X). AllZip R l done) (sym before) (subst (λ (l : List X). AllZip R (xs ++ x ∷ []) l) (sym more) (AllZip-push R xs ys x y zip both))
