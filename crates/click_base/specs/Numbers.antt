-- Numbers in digits.
use Rattle.std.specs.Prelude.{ℕ, ◌+◌, ◌-◌, ◌*◌, List, [], ◌∷◌, length, Bool, ◌||◌, ◌&&◌, leb, nat_lt, nat_le, unwrap_or, Option, Some, None, Result, Ok, Err, if◌then◌else◌}
use Rattle.std.specs.List.{list_all}
use Rattle.click_base.specs.declared.numbers.NumberFault.{NumberFault}
use Rattle.click_base.specs.declared.numbers.NumberFault.TheVariants as fault

-- a decimal digit
abbrev pub digit : ℕ → Bool
digit b = leb 48 b && leb b 57

-- a decimal digit, or a letter from A to F in either case
abbrev pub hex_digit : ℕ → Bool
hex_digit b = digit b || (nat_le 65 b && nat_le b 70) || (nat_le 97 b && nat_le b 102)

-- the value of a hexadecimal digit
abbrev pub hex_digit_value : ℕ → Option ℕ
hex_digit_value b =
    if digit b then Some (b - 48)
    else if leb 65 b && leb b 70 then Some (b - 55)
    else if leb 97 b && leb b 102 then Some (b - 87)
    else None

-- the value of a digit, or 0 for another byte
abbrev pub digit_value : ℕ → ℕ
digit_value b = unwrap_or (hex_digit_value b) 0

-- one or more bytes that all pass a test
abbrev pub is_run : (ℕ → Bool) → List ℕ → Bool
is_run test bytes = nat_lt 0 (length bytes) && list_all test bytes

-- the number that digits spell in a base, if n was read before them
abbrev pub spelled : ℕ → ℕ → List ℕ → ℕ
spelled base n [] = n
spelled base n (d ∷ ds) = spelled base (base * n + digit_value d) ds

-- the number, if it is at most `high`
abbrev pub at_most : ℕ → ℕ → Option ℕ
at_most high n = if nat_le n high then Some n else None

-- the number that decimal digits spell, if it is at most `high`
unfoldable pub decimal_in : ℕ → List ℕ → Option ℕ
decimal_in high bytes = if is_run digit bytes then at_most high (spelled 10 0 bytes) else None

-- the number that hexadecimal digits spell, if it is at most `high`
unfoldable pub hexadecimal_in : ℕ → List ℕ → Option ℕ
hexadecimal_in high bytes = if is_run hex_digit bytes then at_most high (spelled 16 0 bytes) else None

-- the number, if it is from low to high; None stands for bytes that spell no number
abbrev pub within : ℕ → ℕ → Option ℕ → Result ℕ NumberFault
within low high None = Err fault.BadNumber
within low high (Some n) = if nat_le low n && nat_le n high then Ok n else Err fault.OutOfRange

-- the number that decimal digits spell
abbrev pub digits : List ℕ → Option ℕ
digits bytes = if is_run digit bytes then Some (spelled 10 0 bytes) else None

-- a number from low to high, in decimal digits only
unfoldable pub decimal_number : ℕ → ℕ → List ℕ → Result ℕ NumberFault
decimal_number low high bytes = within low high (digits bytes)
