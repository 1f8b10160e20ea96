-- The names of some items, each on a line, that are written in two parts.
use Rattle.std.proofs.Common.{◌≡◌, ℕ, List, [], ◌++◌, Bool, true, false, sym, ◌∙◌, ap}
use Rattle.std.specs.Prelude.{if◌then◌else◌}
use Rattle.std.proofs.lemmas.List.{append-nil}
use Rattle.std.proofs.lemmas.List.Concat.{flat_map-append}
use Rattle.click_router.specs.Globals.{lines_of}

-- the second part is written too
pub both_parts : {X : Type 0} (called : X → List ℕ) (xs ys : List X) (b : Bool) (start text all : List ℕ) → b ≡ true → start ≡ [] → text ≡ start ++ lines_of called xs
    → all ≡ text ++ lines_of called ys → all ≡ lines_of called (xs ++ (if b then ys else []))
both_parts called xs ys true start text all t e f g = g ∙ ap (λ (p : List ℕ). p ++ lines_of called ys) (f ∙ ap (λ (p : List ℕ). p ++ lines_of called xs) e) ∙ sym (flat_map-append _ xs ys)
both_parts called xs ys false start text all t e f g = cc

-- only the first part is written
pub one_part : {X : Type 0} (called : X → List ℕ) (xs ys : List X) (b : Bool) (start text : List ℕ) → b ≡ false → start ≡ [] → text ≡ start ++ lines_of called xs
    → text ≡ lines_of called (xs ++ (if b then ys else []))
one_part called xs ys true start text t e f = cc
one_part called xs ys false start text t e f = f ∙ ap (λ (p : List ℕ). p ++ lines_of called xs) e ∙ ap (lines_of called) (sym (append-nil xs))
