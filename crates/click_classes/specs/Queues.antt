-- The state that both classes of queues have.
use Rattle.std.specs.Prelude.{ℕ, ◌≤◌, length, Option, Some, None}
use Rattle.click_classes.specs.PacketList.{PacketList}
use Rattle.click_classes.specs.declared.state.State.{State}
use Rattle.click_classes.specs.declared.state.State.TheVariants as state

-- the packets, the number of dropped ones, and the greatest number that was stored
pub record Queued : Type 0 where
  pub list : PacketList
  pub drops : ℕ
  pub highest : ℕ

abbrev pub queue_of : State → Option Queued
queue_of (state.Queue q drops highest) = Some (record { list = q; drops = drops; highest = highest })
queue_of (state.FrontDropQueue q drops highest) = Some (record { list = q; drops = drops; highest = highest })
queue_of s = None

-- a queue stores no more packets than it has room for, and its high-water mark is at least their
-- number
abbrev pub IsSound : State → Type 0
IsSound (state.Queue q drops highest) = (length q.packets ≤ q.capacity) × (length q.packets ≤ highest)
IsSound (state.FrontDropQueue q drops highest) = (length q.packets ≤ q.capacity) × (length q.packets ≤ highest)
IsSound s = Unit {0}
