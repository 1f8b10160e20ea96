-- The ring of slots in which a packet list stores its packets.
use Rattle.std.specs.Prelude.{◌≡◌, ℕ, ◌+◌, ◌<◌, ◌≤◌, ◌^◌, List, ◌++◌, take, drop}

-- the n slots from index `first` on, continued at index 0
abbrev pub window : {X : Type 0} → ℕ → ℕ → List X → List X
window first n slots = take n (drop first slots ++ take first slots)

-- `count` packets from index `first` on, in a ring of `made` slots; the ring grows up to `room`
-- within its capacity, and wraps around only when it has `room` slots
pub record IsRing (first count made room capacity : ℕ) : Type 0 where
  pub count_in : count ≤ made
  pub first_in : first ≤ made
  pub made_in : made ≤ room
  pub room_in : room ≤ capacity
  pub small : room < 2 ^ 62
  pub grows : made < room → first + count ≤ made
  pub wraps : made ≡ room → 0 < room → first < room
