-- The patterns of a Classifier (Click element reference, "Classifier").
use Rattle.std.specs.Prelude.{ℕ, ◌+◌, ◌*◌, ◌%◌, ◌==◌, List, [], ◌∷◌, length, take, drop, replicate, Bool, true, false, ◌||◌, ◌&&◌, nat_le, slice_index, slice_index_or, codes, position, Option, Some, None, Result, Ok, Err, if◌then◌else◌}
use Rattle.std.specs.List.{list_all}
use Rattle.std.specs.Str.{bytes_eq}
use Rattle.click_base.specs.Numbers.{hex_digit, digit_value, decimal_in}
use Rattle.click_classes.specs.declared.fault.ArgFault.{ArgFault}
use Rattle.click_classes.specs.declared.fault.ArgFault.TheVariants as fault
use Rattle.click_classes.specs.declared.values.pattern.Clause.{Clause}
use Rattle.click_classes.specs.declared.values.pattern.Pattern.{Pattern}
use Rattle.click_classes.specs.Steps.{◌>>=◌, each}

-- a hexadecimal digit or `?`
abbrev pub pattern_digit : ℕ → Bool
pattern_digit b = hex_digit b || (b == 63)

-- the bytes that pairs of digits spell, with 0 for `?`
abbrev pub value_of : List ℕ → List ℕ
value_of [] = []
value_of (h ∷ []) = []
value_of (h ∷ l ∷ ds) = (16 * digit_value h + digit_value l) ∷ value_of ds

-- the bits of the mask digit m that count with the digit d: none with `?`
abbrev pub counted_bits : ℕ → ℕ → ℕ
counted_bits d m = if d == 63 then 0 else digit_value m

-- the bytes of the mask with the digits ms, for the digits ds
abbrev pub mask_of : List ℕ → List ℕ → List ℕ
mask_of (h ∷ l ∷ ds) (m ∷ n ∷ ms) = (16 * counted_bits h m + counted_bits l n) ∷ mask_of ds ms
mask_of _ _ = []

-- 2 to 128 digits, an even number
abbrev pub are_digits : List ℕ → Bool
are_digits ds = (length ds % 2 == 0) && nat_le 2 (length ds) && nat_le (length ds) 128 && list_all pattern_digit ds

-- a mask with as many hexadecimal digits as there are digits
abbrev pub is_mask : List ℕ → List ℕ → Bool
is_mask ds ms = (length ms == length ds) && list_all hex_digit ms

-- the clause with these parts
unfoldable pub clause_of : Bool → ℕ → List ℕ → List ℕ → Result Clause ArgFault
clause_of negated offset ds ms =
    if are_digits ds && is_mask ds ms then Ok (record { negated = negated; offset = offset; value = value_of ds; mask = mask_of ds ms })
    else Err fault.BadEntry

-- digits, and a mask after the index of `%`; without a mask all bits count, as with the digit `f`
abbrev pub with_mask : Bool → ℕ → List ℕ → Option ℕ → Result Clause ArgFault
with_mask negated offset p None = clause_of negated offset p (replicate (length p) 102)
with_mask negated offset p (Some at) = clause_of negated offset (take at p) (drop (at + 1) p)

abbrev pub with_offset : Bool → List ℕ → Option ℕ → Result Clause ArgFault
with_offset negated p None = Err fault.BadEntry
with_offset negated p (Some offset) = with_mask negated offset p (position (λ b. b == 37) p)

-- an offset of 0 to 1,599, and digits after the index of `/`
abbrev pub with_digits : Bool → List ℕ → Option ℕ → Result Clause ArgFault
with_digits negated p None = Err fault.BadEntry
with_digits negated p (Some at) = with_offset negated (drop (at + 1) p) (decimal_in 1599 (take at p))

abbrev pub unsigned : Bool → List ℕ → Result Clause ArgFault
unsigned negated p = with_digits negated p (position (λ b. b == 47) p)

-- `[!]offset/digits[%mask]`
unfoldable pub clause : List ℕ → Result Clause ArgFault
clause word = if slice_index word 0 == 33 then unsigned true (drop 1 word) else unsigned false word

abbrev pub is_dash : List (List ℕ) → Bool
is_dash words = (length words == 1) && bytes_eq (slice_index_or words 0 []) (codes "-")

-- the word `-`, or one or more clauses
unfoldable pub pattern : List (List ℕ) → Result Pattern ArgFault
pattern words =
    if is_dash words then Ok (record { clauses = [] })
    else if length words == 0 then Err fault.BadEntry
    else each clause words >>= λ cs. Ok (record { clauses = cs })
