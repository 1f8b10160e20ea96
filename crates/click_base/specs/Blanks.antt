-- Blanks at the ends of a text: spaces and tabs.
use Rattle.std.specs.Prelude.{ℕ, List, [], ◌∷◌, reverse, Bool, ◌||◌, nat_eq, if◌then◌else◌}

abbrev pub is_blank : ℕ → Bool
is_blank b = nat_eq b 32 || nat_eq b 9

-- the bytes without the blanks at their front
abbrev pub without_front : List ℕ → List ℕ
without_front [] = []
without_front (b ∷ bs) = if is_blank b then without_front bs else b ∷ bs

-- the bytes without the blanks at their front and back
abbrev pub trimmed : List ℕ → List ℕ
trimmed bs = reverse (without_front (reverse (without_front bs)))
