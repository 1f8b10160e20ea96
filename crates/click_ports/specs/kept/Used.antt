-- A table of the numbers of ports.
use Rattle.std.specs.Prelude.{◌≡◌, ℕ, ◌<◌, ◌≤◌, List, length, slice_index}
use Rattle.click_classes.specs.declared.ports.Side.{Side}
use Rattle.click_expand.specs.declared.flat.Connection.{Connection}
use Rattle.click_ports.specs.Ports.{used}

-- the number of ports at the side, for each of the first n elements
pub record AreUsed (cs : List Connection) (n : ℕ) (s : Side) (counts : List ℕ) : Type 0 where
  pub all : length counts ≡ n
  pub right : (e : ℕ) → e < n → slice_index counts e ≡ used cs e s
  pub small : (e : ℕ) → e < n → slice_index counts e ≤ 256
