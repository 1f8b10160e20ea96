-- The values of the ends of links in contracts.
use Rattle.std.specs.Prelude.{◌≡◌, ℕ, Bool, false, List, [], ◌∷◌, ◌++◌, take, Option, Some, None, if◌then◌else◌}
use Rattle.std.specs.Str.{bytes_eq}
use Rattle.std.specs.declared.net.socket_addr.SocketAddr.{SocketAddr}
use Rattle.click_packet.specs.Packet.{Packet}
use Rattle.click_rings.specs.Feeds.{Putting}
use Rattle.click_links.specs.declared.datagram.Datagram.{Datagram}

-- The datagrams that arrive, in order, and how many have arrived.
pub record Reading : Type 0 where
  pub all : List Datagram
  pub next : ℕ

-- The two addresses of a receiving end: the one that its socket was asked for, and its peer's.
pub record EndAddresses : Type 0 where
  pub here : SocketAddr
  pub there : SocketAddr

-- What came over a receiving end: its addresses, if it has any, and the datagrams, oldest first.
pub record Received : Type 0 where
  pub addresses : Option EndAddresses
  pub datagrams : List Datagram

-- What came over the same end after these further datagrams.
abbrev pub further : Received → List Datagram → Received
further r more = record { addresses = r.addresses; datagrams = r.datagrams ++ more }

-- The receiving end of a link over UDP: the address that its socket was asked for, its peer, the
-- datagrams that came, and the latest of them.
pub record Hearing : Type 0 where
  pub here : SocketAddr
  pub there : SocketAddr
  pub came : List Datagram
  pub current : Datagram

-- What came over an end over UDP.
abbrev pub received_over : Hearing → Received
received_over h = record { addresses = Some (record { here = h.here; there = h.there }); datagrams = h.came }

-- What came over an end in memory, which has no addresses: the datagrams that were read.
abbrev pub received_in_memory : Reading → Received
received_in_memory r = record { addresses = None; datagrams = take r.next r.all }

-- No datagram: no bytes, and not from the peer.
abbrev pub nothing : Datagram
nothing = record { bytes = []; known = false }

-- A packet whose sending over the link of a device was attempted, and whether it was sent.
pub record Attempt : Type 0 where
  pub device : List ℕ
  pub packet : Packet
  pub sent : Bool

-- The attempt for this device and packet, with this result.
abbrev pub attempt : List ℕ → Packet → Bool → Attempt
attempt device packet sent = record { device = device; packet = packet; sent = sent }

-- The line of a link over UDP: its device, the address that its socket was asked for, and its peer,
-- which its packets are sent to.
pub record Line : Type 0 where
  pub device : List ℕ
  pub here : SocketAddr
  pub there : SocketAddr

-- The line of a device: the first one that has it.
abbrev pub line_of : List ℕ → List Line → Option Line
line_of device [] = None
line_of device (l ∷ ls) = if bytes_eq l.device device then Some l else line_of device ls

-- The lines over which packets are sent, and the packets whose sending over them was attempted.
pub record Sending : Type 0 where
  pub lines : List Line
  pub tried : List Attempt

-- The packets that were sent, each with its device.
abbrev pub gone : List Attempt → List (List ℕ × Packet)
gone [] = []
gone (t ∷ ts) = (if t.sent then (t.device, t.packet) ∷ [] else []) ++ gone ts

-- The only item of a list.
abbrev pub only : List (List ℕ × Bool) → List ℕ × Bool
only [] = ([], false)
only (x ∷ xs) = x

-- A packet that a feed was offered, and whether the feed took it.
pub record Offer : Type 0 where
  pub packet : Packet
  pub taken : Bool

-- The offer of this packet, with this result.
abbrev pub offer : Packet → Bool → Offer
offer packet taken = record { packet = packet; taken = taken }

-- A feed, with the packets that it was offered and whether it took each.
pub record Offering : Type 0 where
  pub feed : Putting
  pub asked : List Offer

-- The number of packets that may wait in the feed of a link.
abbrev pub link_places : ℕ
link_places = 1024

-- The feed of a link before its run: it was offered nothing, and has the places of a link.
abbrev pub IsNewFeed : Offering → Type 0
IsNewFeed o = (o.feed.put ≡ []) × (o.asked ≡ []) × (o.feed.places ≡ link_places)
