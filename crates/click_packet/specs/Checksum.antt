-- The checksum of an internet header (RFC 791, section 3.1; RFC 1071).
use Rattle.std.specs.Prelude.{ℕ, zero, suc, ◌+◌, ◌-◌, ◌*◌, ◌%◌, ◌≤◌, ◌↔◌, ◌≡◌, List, [], ◌∷◌, if◌then◌else◌, nat_lt, sum}

-- the 16-bit words of the bytes, with the high byte first; a last single byte is a high byte
abbrev pub words : List ℕ → List ℕ
words [] = []
words (high ∷ []) = (high * 256) ∷ []
words (high ∷ low ∷ rest) = (high * 256 + low) ∷ words rest

-- the plain sum of the words
abbrev pub sum_of_words : List ℕ → ℕ
sum_of_words bytes = sum (words bytes)

-- The ones' complement sum of words, from their plain sum. Ones' complement numbers of 16 bits are
-- the numbers modulo 65,535, and ffff stands for 0 too. The result is 0 only if each word is 0.
unfoldable pub ones_sum : ℕ → ℕ
ones_sum zero = 0
ones_sum (suc n) = n % 65535 + 1

-- the ones' complement sum of two words: a carry out of the 16 bits is added at the low end
abbrev pub ones_add : ℕ → ℕ → ℕ
ones_add a b = if nat_lt (a + b) 65536 then a + b else a + b - 65535

-- `sum` is a word that is congruent to the plain sum modulo 65,535, and is 0 only if that is 0
pub record IsOnesSum (total sum : ℕ) : Type 0 where
  pub congruent : sum % 65535 ≡ total % 65535
  pub word : sum ≤ 65535
  pub zero_only : sum ≡ 0 ↔ total ≡ 0
