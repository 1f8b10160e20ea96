-- The first element whose name has a checksum.
use Rattle.std.specs.Prelude.{◌≡◌, ℕ, ◌+◌, ◌*◌, ◌%◌, ◌^◌, nat_eq, List, [], ◌∷◌, Option, Some, None, if◌then◌else◌}
use Rattle.std.specs.HashMap.{get}
use Rattle.click_engine.specs.declared.element_names.ElementNames.{ElementNames}

-- the checksum of a name, as the bytes after those of `sum` change it
abbrev pub sum_on : ℕ → List ℕ → ℕ
sum_on sum [] = sum
sum_on sum (b ∷ bs) = sum_on (((sum * 1099511628211) % 2 ^ 64 + b) % 2 ^ 64) bs

abbrev pub sum_of : List ℕ → ℕ
sum_of name = sum_on 14695981039346656037 name

-- the first of these names with this checksum; they have the indices from `at` on
abbrev pub first_with_sum : ℕ → ℕ → List (List ℕ) → Option ℕ
first_with_sum sum at [] = None
first_with_sum sum at (n ∷ ns) = if nat_eq (sum_of n) sum then Some at else first_with_sum sum (at + 1) ns

-- the table has, for the checksum of each name, the first element whose name has it
abbrev pub FindsSums : ElementNames → List (List ℕ) → Type 0
FindsSums table names = (sum : ℕ) → get nat_eq table.first sum ≡ first_with_sum sum 0 names
