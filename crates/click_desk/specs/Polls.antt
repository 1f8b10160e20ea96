-- Polls: what a history took from the feeds.
use Rattle.std.specs.Prelude.{◌≡◌, ◌≤◌, ℕ, false, List, [], ◌∷◌, ◌++◌, length, if◌then◌else◌}
use Rattle.std.specs.List.{All}
use Rattle.std.specs.Str.{bytes_eq}
use Rattle.click_packet.specs.Packet.{Packet}
use Rattle.click_rings.specs.Feeds.{FeedName, ConsumerState, has_feed}
use Rattle.click_router.specs.Polls.{poll}
use Rattle.click_router.specs.declared.call.Call.{Call}
use Rattle.click_router.specs.declared.call.Call.TheVariants as call
use Rattle.click_router.specs.declared.call.Reply.{Reply}
use Rattle.click_router.specs.declared.call.Reply.TheVariants.{NoDevice}
use Rattle.click_desk.specs.declared.entry.Entry.{Entry}
use Rattle.click_desk.specs.SeatStates.{SeatState, Calls}

-- The packets that a call took from the feed of a device.
abbrev pub taken_of : Call → List ℕ → List Packet
taken_of (call.Read name text) device = []
taken_of (call.Write name text) device = []
taken_of (call.CheckRead name) device = []
taken_of (call.CheckWrite name) device = []
taken_of (call.Swap text) device = []
taken_of (call.Arrive from p) device = []
taken_of (call.Poll from taken) device = if bytes_eq device from then taken else []
taken_of call.Round device = []
taken_of (call.Transmit from) device = []

-- The packets that a history polled of a device, in order.
abbrev pub polled : List Entry → List ℕ → List Packet
polled [] device = []
polled (e ∷ es) device = taken_of e.call device ++ polled es device

-- What was drawn from each feed is what the history polled of its device.
abbrev pub IsPolled : List Entry → List ConsumerState → Type 0
IsPolled history consumers = All (λ t. t.drawn ≡ polled history t.device) consumers

-- How many packets a poll may draw: up to the limit, and none if the configuration has no such
-- device or the desk has no feed for it.
pub record MayTake (feeds : List FeedName) (device : List ℕ) (limit : ℕ) (taken : List Packet) (reply : Reply) : Type 0 where
  pub within : length taken ≤ limit
  pub no_device : reply ≡ NoDevice → taken ≡ []
  pub no_feed : has_feed device feeds ≡ false → taken ≡ []

-- The seat has polled a device: it made a Poll, with the packets that were drawn.
pub record Polls (old new : SeatState) (device : List ℕ) (limit : ℕ) (reply : Reply) : Type 0 where
  pub taken : List Packet
  pub may : MayTake new.feeds device limit taken reply
  pub calls : Calls old new (poll device taken) reply

-- The feeds without the one of a device.
abbrev pub without : List ℕ → List ConsumerState → List ConsumerState
without device [] = []
without device (t ∷ ts) = if bytes_eq t.device device then ts else (t ∷ without device ts)
