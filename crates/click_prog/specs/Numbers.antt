-- Numbers in decimal digits, as values of options.
use Rattle.std.specs.Prelude.{◌≡◌, ℕ, ◌≤◌, List}
use Rattle.std.specs.Str.Parse.{IsNumeral, digits_value}

-- the text consists of one or more decimal digits, which write this number, and it is in the range
abbrev pub IsNumber : ℕ → ℕ → List ℕ → ℕ → Type 0
IsNumber least most text n = IsNumeral 10 text × (digits_value 10 text ≡ n) × (least ≤ n) × (n ≤ most)

-- the text is not such a number
abbrev pub IsNoNumber : ℕ → ℕ → List ℕ → Type 0
IsNoNumber least most text = (n : ℕ) → IsNumber least most text n → ⊥
