-- The maximum number of entries of a history.
use Rattle.std.specs.Prelude.{ℕ, ◌≤◌, Option, Some, None}

-- There is room for n entries. For a history without a bound this always holds.
abbrev pub IsWithin : Option ℕ → ℕ → Type 0
IsWithin None n = Unit {0}
IsWithin (Some room) n = n ≤ room

-- There is no room for one more entry. For a history without a bound this never holds.
abbrev pub IsFull : Option ℕ → ℕ → Type 0
IsFull None n = ⊥
IsFull (Some room) n = room ≤ n
