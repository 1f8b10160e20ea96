-- The values that contracts see of feeds and inlets.
use Rattle.std.specs.Prelude.{◌≡◌, ℕ, ◌<◌, Bool, true, false, ◌||◌, ◌&&◌, not, List, [], ◌∷◌, ◌++◌, map, length, slice_index_or, if◌then◌else◌}
use Rattle.std.specs.Str.{bytes_eq}
use denote.RawPtr.{Ptr}
use Rattle.rtrb.specs.Shared.{Names}
use Rattle.click_packet.specs.Packet.{Packet}

-- the identity of a ring: its two blocks of memory, and its names
pub record RingName : Type 0 where
  pub words : Ptr
  pub slots : Ptr
  pub names : Names

-- a feed that has ended: its ring, and all packets that were put
pub record Feeding : Type 0 where
  pub ring : RingName
  pub put : List Packet

-- a feed: its ring, the number of its places, and all packets that were put so far
pub record Putting : Type 0 where
  pub ring : RingName
  pub places : ℕ
  pub put : List Packet

-- an inlet in use: its device, its ring, and all packets that were drawn from it
pub record ConsumerState : Type 0 where
  pub device : List ℕ
  pub ring : RingName
  pub drawn : List Packet

-- the identity of a feed: its device and its ring
pub record FeedName : Type 0 where
  pub device : List ℕ
  pub ring : RingName

abbrev pub name_of : ConsumerState → FeedName
name_of i = record { device = i.device; ring = i.ring }

-- one of these feeds is for the device
abbrev pub has_feed : List ℕ → List FeedName → Bool
has_feed device [] = false
has_feed device (f ∷ fs) = bytes_eq f.device device || has_feed device fs

-- no two of these feeds are for the same device
abbrev pub have_distinct_devices : List FeedName → Bool
have_distinct_devices [] = true
have_distinct_devices (f ∷ fs) = not (has_feed f.device fs) && have_distinct_devices fs

-- the inlets after these packets were drawn from that of the device
abbrev pub drew : List ℕ → List Packet → List ConsumerState → List ConsumerState
drew device got [] = []
drew device got (i ∷ is) = (if bytes_eq i.device device then record i { drawn = i.drawn ++ got } else i) ∷ drew device got is

-- the inlet at index k is for the device
abbrev pub IsPlace : List ℕ → List ConsumerState → ℕ → Type 0
IsPlace device is k = (k < length is) × ((i : ConsumerState) → bytes_eq (slice_index_or is k i).device device ≡ true)
