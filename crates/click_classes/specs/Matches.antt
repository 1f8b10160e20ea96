-- The packets that a pattern matches (Click element reference, "Classifier").
use Rattle.std.specs.Prelude.{ℕ, ◌==◌, List, [], ◌∷◌, drop, Bool, true, false, not, ◌&&◌, bit_and, if◌then◌else◌}
use Rattle.std.specs.List.{list_all}
use Rattle.click_classes.specs.declared.values.pattern.Clause.{Clause}
use Rattle.click_classes.specs.declared.values.pattern.Pattern.{Pattern}

-- there are enough bytes, and they agree with the value in each bit of the mask
abbrev pub agrees : List ℕ → List ℕ → List ℕ → Bool
agrees (b ∷ bytes) (v ∷ value) (m ∷ mask) = (bit_and b m == bit_and v m) && agrees bytes value mask
agrees [] (v ∷ value) (m ∷ mask) = false
agrees bytes _ _ = true

abbrev pub holds : Clause → List ℕ → Bool
holds c bytes = let found = agrees (drop c.offset bytes) c.value c.mask in if c.negated then not found else found

-- all clauses hold
abbrev pub matches : Pattern → List ℕ → Bool
matches p bytes = list_all (λ c. holds c bytes) p.clauses
