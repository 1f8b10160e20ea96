-- The bytes of a header as 32-bit words.
use Rattle.std.specs.Prelude.{ℕ, ◌+◌, ◌*◌, List, ◌∷◌}

-- the sum of the complete 32-bit words of the bytes, with the low byte first
abbrev pub quads : List ℕ → ℕ
quads (a ∷ b ∷ c ∷ d ∷ rest) = a + b * 256 + c * 65536 + d * 16777216 + quads rest
quads xs = 0
