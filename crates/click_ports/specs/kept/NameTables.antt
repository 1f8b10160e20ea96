-- The stored names of elements.
use Rattle.std.specs.Prelude.{◌≡◌, ℕ, ◌≤◌, ◌-◌, List, take, drop}
use Rattle.click_ports.specs.declared.name_table.NamePlace.{NamePlace}

-- the bytes of a name
abbrev pub name_within : List ℕ → NamePlace → List ℕ
name_within bytes p = take (p.end - p.start) (drop p.start bytes)

-- the name is within the first `size` bytes
pub record IsWithin (size : ℕ) (p : NamePlace) : Type 0 where
  pub ordered : p.start ≤ p.end
  pub within : p.end ≤ size
