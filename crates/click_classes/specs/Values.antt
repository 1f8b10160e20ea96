-- The values that arguments spell (Click element reference), as functions of an argument's bytes.
use Rattle.std.specs.Prelude.{ℕ, zero, suc, ◌+◌, ◌-◌, ◌*◌, ◌/◌, ◌^◌, ◌==◌, List, [], ◌∷◌, length, take, drop, Bool, true, false, ◌||◌, ◌&&◌, nat_le, slice_index, codes, position, Option, Some, None, option_map, option_and_then, Result, Ok, Err, if◌then◌else◌}
use Rattle.std.specs.Option.{ok_or}
use Rattle.std.specs.List.{list_all}
use Rattle.std.specs.Str.{bytes_eq}
use Rattle.click_base.specs.declared.numbers.NumberFault.{NumberFault}
use Rattle.click_base.specs.declared.numbers.NumberFault.TheVariants as number_fault
use Rattle.click_base.specs.Numbers.{digit, hex_digit, is_run, spelled, decimal_in, hexadecimal_in, within}
use Rattle.click_text.specs.Pieces.{name_byte}
use Rattle.click_classes.specs.declared.fault.ArgFault.{ArgFault}
use Rattle.click_classes.specs.declared.fault.ArgFault.TheVariants as fault
use Rattle.click_classes.specs.declared.values.groups.Group.{Group}
use Rattle.click_classes.specs.declared.values.groups.Group.TheVariants as kind
use Rattle.click_classes.specs.declared.values.prefix.Prefix.{Prefix}

-- `0x` and hexadecimal digits
abbrev pub is_hexadecimal : List ℕ → Bool
is_hexadecimal bytes = (slice_index bytes 0 == 48) && (slice_index bytes 1 == 120) && is_run hex_digit (drop 2 bytes)

-- the number that bytes spell: decimal digits, or `0x` and hexadecimal digits
abbrev pub number : List ℕ → Option ℕ
number bytes =
    if is_run digit bytes then Some (spelled 10 0 bytes)
    else if is_hexadecimal bytes then Some (spelled 16 0 (drop 2 bytes))
    else None

-- the result of a number as that of an argument
abbrev pub as_argument : Result ℕ NumberFault → Result ℕ ArgFault
as_argument (Ok n) = Ok n
as_argument (Err number_fault.BadNumber) = Err fault.BadNumber
as_argument (Err number_fault.OutOfRange) = Err fault.OutOfRange

-- a number from low to high
unfoldable pub number_in : ℕ → ℕ → List ℕ → Result ℕ ArgFault
number_in low high bytes = as_argument (within low high (number bytes))

abbrev pub some : Result ℕ ArgFault → Result (Option ℕ) ArgFault
some (Ok n) = Ok (Some n)
some (Err f) = Err f

-- a number from 0 to high, or `-1`, which is None
unfoldable pub number_or_minus_one : ℕ → List ℕ → Result (Option ℕ) ArgFault
number_or_minus_one high bytes = if bytes_eq bytes (codes "-1") then Ok None else some (number_in 0 high bytes)

unfoldable pub truth : List ℕ → Result Bool ArgFault
truth bytes =
    if bytes_eq bytes (codes "true") || bytes_eq bytes (codes "yes") || bytes_eq bytes (codes "1") then Ok true
    else if bytes_eq bytes (codes "false") || bytes_eq bytes (codes "no") || bytes_eq bytes (codes "0") then Ok false
    else Err fault.BadNumber

-- one to three decimal digits that spell at most 255, or one or two hexadecimal digits
unfoldable pub group : Group → List ℕ → Option ℕ
group kind.Octet bytes = if nat_le (length bytes) 3 then decimal_in 255 bytes else None
group kind.Pair bytes = if nat_le (length bytes) 2 then hexadecimal_in 255 bytes else None

-- n groups with a separator between two of them
unfoldable pub separated : Group → ℕ → ℕ → List ℕ → Option (List ℕ)
separated k separator zero bytes = None
separated k separator (suc zero) bytes = option_map (λ x. x ∷ []) (group k bytes)
separated k separator (suc (suc n)) bytes = option_and_then
    (λ at. option_and_then (λ x. option_map (λ xs. x ∷ xs) (separated k separator (suc n) (drop (at + 1) bytes))) (group k (take at bytes)))
    (position (λ b. b == separator) bytes)

-- four groups joined by `.`
unfoldable pub address : List ℕ → Result (List ℕ) ArgFault
address bytes = ok_or (separated kind.Octet 46 4 bytes) fault.BadAddress

-- six groups joined by `:`
unfoldable pub ethernet : List ℕ → Result (List ℕ) ArgFault
ethernet bytes = ok_or (separated kind.Pair 58 6 bytes) fault.BadAddress

-- the byte with only its first bits kept
unfoldable pub first_bits : ℕ → ℕ → ℕ
first_bits bits b = let unit = 2 ^ (8 - bits) in b / unit * unit

-- the address with the bits after the first `len` cleared
unfoldable pub cleared : ℕ → List ℕ → List ℕ
cleared len a =
    first_bits len (slice_index a 0) ∷ first_bits (len - 8) (slice_index a 1)
    ∷ first_bits (len - 16) (slice_index a 2) ∷ first_bits (len - 24) (slice_index a 3) ∷ []

abbrev pub prefix_of : Result (List ℕ) ArgFault → Option ℕ → Result Prefix ArgFault
prefix_of (Ok a) (Some len) = Ok (record { network = cleared len a; len = len })
prefix_of (Ok a) None = Err fault.BadAddress
prefix_of (Err f) len = Err f

abbrev pub whole : Result (List ℕ) ArgFault → Result Prefix ArgFault
whole (Ok a) = Ok (record { network = a; len = 32 })
whole (Err f) = Err f

-- an address with a length after the `/`, which is at this index, or an address alone
abbrev pub prefix_at : List ℕ → Option ℕ → Result Prefix ArgFault
prefix_at bytes None = whole (address bytes)
prefix_at bytes (Some at) = prefix_of (address (take at bytes)) (decimal_in 32 (drop (at + 1) bytes))

-- an address, `/` and a length of 0 to 32, or an address alone, whose length is 32
unfoldable pub prefix : List ℕ → Result Prefix ArgFault
prefix bytes = prefix_at bytes (position (λ b. b == 47) bytes)

-- a letter, a digit, `_`, `.`, `:` or `-`
abbrev pub device_byte : ℕ → Bool
device_byte b = name_byte b || (b == 46) || (b == 58) || (b == 45)

-- whether the bytes are the name of a device
unfoldable pub is_device : List ℕ → Bool
is_device bytes = nat_le 1 (length bytes) && nat_le (length bytes) 64 && list_all device_byte bytes
