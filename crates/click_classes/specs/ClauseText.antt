-- The text of a clause, written from what it requires of a packet's bytes (Click element reference,
-- "Classifier").
use Rattle.std.specs.Prelude.{◌≡◌, ℕ, ◌+◌, ◌*◌, ◌/◌, ◌%◌, ◌<◌, List, [], ◌∷◌, Bool, true, false, Option, Some, None, codes, nat_lt, unwrap_or, if◌then◌else◌}

-- what two digits require of a byte: each half is a certain number below 16, or may be any
pub record Halves : Type 0 where
  pub high : Option ℕ
  pub low : Option ℕ

abbrev pub IsHalf : Option ℕ → Type 0
IsHalf None = Unit {0}
IsHalf (Some n) = n < 16

abbrev pub AreHalves : List Halves → Type 0
AreHalves [] = Unit {0}
AreHalves (b ∷ bs) = IsHalf b.high × IsHalf b.low × AreHalves bs

abbrev pub AreBytes : List ℕ → Type 0
AreBytes [] = Unit {0}
AreBytes (b ∷ bs) = (b < 256) × AreBytes bs

-- the hexadecimal digit of a number below 16: 0 to 9, then a to f
abbrev pub hex_digit_of : ℕ → ℕ
hex_digit_of n = if nat_lt n 10 then 48 + n else 87 + n

-- the digit for a half; `?` if it may be any
abbrev pub half_digit : Option ℕ → ℕ
half_digit None = 63
half_digit (Some n) = hex_digit_of n

-- two digits for each byte
abbrev pub halves_text : List Halves → List ℕ
halves_text [] = []
halves_text (b ∷ bs) = half_digit b.high ∷ half_digit b.low ∷ halves_text bs

abbrev pub hex_text : List ℕ → List ℕ
hex_text [] = []
hex_text (b ∷ bs) = hex_digit_of (b / 16) ∷ hex_digit_of (b % 16) ∷ hex_text bs

-- the required byte, with 0 for a half that may be any
abbrev pub wanted : Halves → ℕ
wanted b = 16 * unwrap_or b.high 0 + unwrap_or b.low 0

-- all four bits of a half count, or none if it may be any
abbrev pub bits_of : Option ℕ → ℕ
bits_of None = 0
bits_of (Some n) = 15

-- the bits of a byte that count
abbrev pub counted : Halves → ℕ
counted b = 16 * bits_of b.high + bits_of b.low

-- the bits of a half that are in the mask, or none if the half may be any
abbrev pub bits_under : Option ℕ → ℕ → ℕ
bits_under None m = 0
bits_under (Some n) m = m

-- the bits that count under a mask, byte by byte
abbrev pub counted_under : List Halves → List ℕ → List ℕ
counted_under (b ∷ bs) (m ∷ ms) = (16 * bits_under b.high (m / 16) + bits_under b.low (m % 16)) ∷ counted_under bs ms
counted_under _ _ = []

-- the text before a clause: `!` if it is negated
abbrev pub sign : Bool → List ℕ
sign true = codes "!"
sign false = []

-- the half of a byte is as the digit requires
abbrev pub IsAs : Option ℕ → ℕ → Type 0
IsAs None n = Unit {0}
IsAs (Some m) n = n ≡ m

-- the first bytes are as the digits require
abbrev pub BeginsWith : List Halves → List ℕ → Type 0
BeginsWith [] bytes = Unit {0}
BeginsWith (b ∷ bs) [] = ⊥
BeginsWith (b ∷ bs) (x ∷ bytes) = IsAs b.high (x / 16) × IsAs b.low (x % 16) × BeginsWith bs bytes
