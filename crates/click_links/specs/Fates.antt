-- The fates of the datagrams that came.
use Rattle.std.specs.Prelude.{◌≡◌, ◌↔◌, ℕ, ◌<◌, ◌≤◌, ◌+◌, ◌⊎◌, true, false, List, [], ◌∷◌, ◌++◌, length, map}
use Rattle.click_packet.specs.Packet.{Packet, longest_packet}
use Rattle.click_links.specs.declared.datagram.Datagram.{Datagram}
use Rattle.click_links.specs.declared.datagram.DatagramOutcome.{DatagramOutcome}
use Rattle.click_links.specs.declared.datagram.DatagramOutcome.TheVariants.{Enqueued, ForeignSender, TooLong, FeedFull, NoMemory}
use Rattle.click_links.specs.declared.dropped.Dropped.{Dropped}
use Rattle.click_links.specs.Ends.{Offer, offer, Offering, Received, further}

-- A datagram that came, with its fate.
pub record Heard : Type 0 where
  pub datagram : Datagram
  pub fate : DatagramOutcome

-- This datagram with this fate.
abbrev pub heard : Datagram → DatagramOutcome → Heard
heard datagram fate = record { datagram = datagram; fate = fate }

-- The packet of a datagram with these bytes.
abbrev pub packet_of : List ℕ → Packet
packet_of bytes = record { bytes = bytes; paint = 0; destination = 0 ∷ 0 ∷ 0 ∷ 0 ∷ [] }

-- What is put into the feed for a datagram with this fate.
abbrev pub put_of : DatagramOutcome → List ℕ → List Packet
put_of Enqueued bytes = packet_of bytes ∷ []
put_of ForeignSender bytes = []
put_of TooLong bytes = []
put_of FeedFull bytes = []
put_of NoMemory bytes = []

-- The packets that were put for these datagrams, in order.
abbrev pub puts : List Heard → List Packet
puts [] = []
puts (h ∷ hs) = put_of h.fate h.datagram.bytes ++ puts hs

-- What the feed was offered for a datagram with this fate.
abbrev pub asked_of : DatagramOutcome → List ℕ → List Offer
asked_of Enqueued bytes = offer (packet_of bytes) true ∷ []
asked_of ForeignSender bytes = []
asked_of TooLong bytes = []
asked_of FeedFull bytes = offer (packet_of bytes) false ∷ []
asked_of NoMemory bytes = []

-- What the feed was offered for these datagrams, in order.
abbrev pub asks : List Heard → List Offer
asks [] = []
asks (h ∷ hs) = asked_of h.fate h.datagram.bytes ++ asks hs

-- The sum of a number over the fates of these datagrams.
abbrev pub counted : (DatagramOutcome → ℕ) → List Heard → ℕ
counted f [] = 0
counted f (h ∷ hs) = f h.fate + counted f hs

-- 1 for a datagram that is not from the peer, otherwise 0.
abbrev pub of_stranger : DatagramOutcome → ℕ
of_stranger Enqueued = 0
of_stranger ForeignSender = 1
of_stranger TooLong = 0
of_stranger FeedFull = 0
of_stranger NoMemory = 0

-- 1 for a datagram that is too long, otherwise 0.
abbrev pub of_long : DatagramOutcome → ℕ
of_long Enqueued = 0
of_long ForeignSender = 0
of_long TooLong = 1
of_long FeedFull = 0
of_long NoMemory = 0

-- 1 for a datagram for which the feed was full, otherwise 0.
abbrev pub of_full : DatagramOutcome → ℕ
of_full Enqueued = 0
of_full ForeignSender = 0
of_full TooLong = 0
of_full FeedFull = 1
of_full NoMemory = 0

-- 1 for a datagram for whose packet there was no memory, otherwise 0.
abbrev pub of_memory : DatagramOutcome → ℕ
of_memory Enqueued = 0
of_memory ForeignSender = 0
of_memory TooLong = 0
of_memory FeedFull = 0
of_memory NoMemory = 1

-- The fate is right for this datagram, if `before` packets were put into a feed with this number of
-- places. A datagram is a stranger if and only if it is not from the peer. Any other is too long if
-- and only if it has more bytes than a packet may have. The feed is full only if at least as many
-- packets were put as it has places. Only a datagram that is neither a stranger nor too long may be
-- put, or dropped as out of memory.
pub record IsDue (places before : ℕ) (datagram : Datagram) (fate : DatagramOutcome) : Type 0 where
  pub stranger : (fate ≡ ForeignSender) ↔ (datagram.known ≡ false)
  pub long : (fate ≡ TooLong) ↔ ((datagram.known ≡ true) × (longest_packet < length datagram.bytes))
  pub room : fate ≡ FeedFull → places ≤ before

-- Each of these fates is right, if these packets were put before.
abbrev pub EachDue : ℕ → List Packet → List Heard → Type 0
EachDue places put [] = Unit {0}
EachDue places put (h ∷ hs) = IsDue places (length put) h.datagram h.fate × EachDue places (put ++ put_of h.fate h.datagram.bytes) hs

-- These further datagrams came over the same end. The feed was offered exactly the packets of those that are from the
-- peer, short enough and had memory, in order and exactly once. What the feed took was put into it.
-- Each fate is right.
pub record Hears (came came2 : Received) (from to : Offering) (hs : List Heard) : Type 0 where
  pub more : came2 ≡ further came (map (λ h. h.datagram) hs)
  pub offered : to.asked ≡ from.asked ++ asks hs
  pub entered : to.feed.put ≡ from.feed.put ++ puts hs
  pub due : EachDue from.feed.places from.feed.put hs
  pub places : to.feed.places ≡ from.feed.places
  pub ring : to.feed.ring ≡ from.feed.ring

-- Some further datagrams came over the same end, with these numbers of dropped ones by cause.
pub record Receives (came came2 : Received) (from to : Offering) (dropped : Dropped) : Type 0 where
  pub heard_here : List Heard
  pub hears : Hears came came2 from to heard_here
  pub strangers : dropped.strangers ≡ counted of_stranger heard_here
  pub too_long : dropped.too_long ≡ counted of_long heard_here
  pub no_room : dropped.no_room ≡ counted of_full heard_here
  pub no_memory : dropped.no_memory ≡ counted of_memory heard_here

-- No datagram was dropped.
abbrev pub nothing_dropped : Dropped
nothing_dropped = record { strangers = 0; too_long = 0; no_room = 0; no_memory = 0 }

-- Each of these numbers is below n.
abbrev pub AllBelow : Dropped → ℕ → Type 0
AllBelow d n = (d.strangers < n) × (d.too_long < n) × (d.no_room < n) × (d.no_memory < n)

-- These numbers after one more datagram with this fate.
abbrev pub added : Dropped → DatagramOutcome → Dropped
added d f = record { strangers = d.strangers + of_stranger f; too_long = d.too_long + of_long f; no_room = d.no_room + of_full f; no_memory = d.no_memory + of_memory f }

-- No further datagram came, or one that is counted.
abbrev pub Steps : Received → Received → Offering → Offering → Dropped → Dropped → Type 0
Steps came came2 from to d d2 =
    ((came2 ≡ came) × (to ≡ from) × (d2 ≡ d)) ⊎ ((datagram : Datagram) × (fate : DatagramOutcome) × Hears came came2 from to (heard datagram fate ∷ []) × (d2 ≡ added d fate))
