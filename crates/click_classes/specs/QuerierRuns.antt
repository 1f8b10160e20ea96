-- Runs of an ARPQuerier: the packets that it was given, and the outcome for each of them.
use Rattle.std.specs.Prelude.{◌≡◌, ◌≢◌, ◌⊎◌, ℕ, zero, suc, ◌+◌, ◌^◌, ◌<◌, nat_lt, Bool, true, List, [], ◌∷◌, ◌++◌, length, filter_map, Option, Some, None, if◌then◌else◌}
use Rattle.std.specs.List.{All, AllPairs, Contains, count_by}
use Rattle.click_packet.specs.Packet.{Packet}
use Rattle.click_gateway.specs.Addresses.{is_host, ethernet_of_group}
use Rattle.click_gateway.specs.Arp.{request_for, ether_header}
use Rattle.click_classes.specs.Acts.{PushEffect, act, has_header_room, up_by}
use Rattle.click_classes.specs.Neighbours.{Neighbour}
use Rattle.click_classes.specs.NeighbourWrites.{inserted, without, cleared, recent}
use Rattle.click_classes.specs.TakeOver.{taken_over}
use Rattle.click_classes.specs.declared.neighbours.Querier.{Querier}
use Rattle.click_classes.specs.declared.state.State.{State}
use Rattle.click_classes.specs.declared.state.State.TheVariants as state

-- What happens to an ARPQuerier: a packet at input 0 (`given`) or 1 (`heard`), a write of a handler,
-- or a hot swap, in which another ARPQuerier takes over. A write of `reset_counts` is no event: the
-- drops are counted from one to the next.
pub data QuerierEvent : Type 0 where
  given : Packet → QuerierEvent
  heard : Packet → QuerierEvent
  insert : List ℕ → List ℕ → QuerierEvent
  delete : List ℕ → QuerierEvent
  clear : QuerierEvent
  expire : ℕ → QuerierEvent
  swap : Querier → QuerierEvent

-- a packet that leaves, its output, and the querier after the event
pub record Departure : Type 0 where
  pub output : ℕ
  pub packet : Packet
  pub querier : Querier

-- the querier after events, and the packets that left, in order
pub record QuerierRun : Type 0 where
  pub querier : Querier
  pub left : List Departure

-- the querier of a state
abbrev pub querier_in : Querier → State → Querier
querier_in q (state.ARPQuerier r) = r
querier_in q s = q

-- one departure for each of `count` outputs, beginning with `first`
abbrev pub departures : Querier → Packet → ℕ → ℕ → List Departure
departures q p first zero = []
departures q p first (suc count) = record { output = first; packet = p; querier = q } ∷ departures q p (first + 1) count

abbrev pub after_push : Querier → PushEffect → QuerierRun
after_push q r = record {
  querier = querier_in q r.state;
  left = departures (querier_in q r.state) r.packet r.outputs.first r.outputs.count;
}

-- nothing leaves
abbrev pub quiet : Querier → QuerierRun
quiet q = record { querier = q; left = [] }

-- the querier after a write that may be refused
abbrev pub written_or : Querier → Option Querier → Querier
written_or q None = q
written_or q (Some r) = r

-- one event at a querier with that number of outputs
abbrev pub after_event : ℕ → Querier → QuerierEvent → QuerierRun
after_event outputs q (given p) = after_push q (act outputs (state.ARPQuerier q) 0 p)
after_event outputs q (heard p) = after_push q (act outputs (state.ARPQuerier q) 1 p)
after_event outputs q (insert address ether) = quiet (written_or q (inserted address ether q))
after_event outputs q (delete address) = quiet (without address q)
after_event outputs q clear = quiet (cleared q)
after_event outputs q (expire packets) = quiet (recent packets q)
after_event outputs q (swap other) = quiet (querier_in q (taken_over outputs (state.ARPQuerier other) (state.ARPQuerier q)))

-- the events in order
abbrev pub after_events : ℕ → Querier → List QuerierEvent → QuerierRun
after_events outputs q [] = quiet q
after_events outputs q (e ∷ es) = record {
  querier = (after_events outputs (after_event outputs q e).querier es).querier;
  left = (after_event outputs q e).left ++ (after_events outputs (after_event outputs q e).querier es).left;
}

-- the packets at input 0, in order
abbrev pub given_in : QuerierEvent → List Packet
given_in (given p) = p ∷ []
given_in e = []

abbrev pub all_given : List QuerierEvent → List Packet
all_given [] = []
all_given (e ∷ es) = given_in e ++ all_given es

-- the packets that wait
abbrev pub waiting_packets : Querier → List Packet
waiting_packets q = filter_map (λ (n : Neighbour). n.waiting) q.table

-- An address has an Ethernet address: the one of its group, or the one in the table.
abbrev pub HasEther : Querier → List ℕ → List ℕ → Type 0
HasEther q address ether =
    (ethernet_of_group address ≡ Some ether) ⊎ ((n : Neighbour) × Contains q.table n × (n.address ≡ address) × (n.ether ≡ Some ether))

-- The packet left at output 0, with the Ethernet header of its destination before it.
pub record IsFrameOf (d : Departure) (p : Packet) : Type 0 where
  pub ether : List ℕ
  pub known : HasEther d.querier p.destination ether
  pub output : d.output ≡ 0
  pub frame : d.packet ≡ record p { bytes = ether_header ether d.querier.ether ++ p.bytes }

-- What left is the query for the destination of a packet that waits.
pub record IsQueryFor (outputs : ℕ) (d : Departure) (p : Packet) : Type 0 where
  pub waits : Contains (waiting_packets d.querier) p
  pub output : d.output ≡ (if nat_lt 1 outputs then 1 else 0)
  pub query : d.packet ≡ record p { bytes = request_for d.querier.ip d.querier.ether p.destination }

-- What left, in order: the frames of these packets, and queries.
pub data AreSent (outputs : ℕ) : List Departure → List Packet → Type 0 where
  none : AreSent outputs [] []
  frame : (d : Departure) (ds : List Departure) (p : Packet) (ps : List Packet) → IsFrameOf d p → AreSent outputs ds ps → AreSent outputs (d ∷ ds) (p ∷ ps)
  query : (d : Departure) (ds : List Departure) (p : Packet) (ps : List Packet) → IsQueryFor outputs d p → AreSent outputs ds ps → AreSent outputs (d ∷ ds) ps

-- The outcome for the packets that waited in a querier and for those that it was given: some left,
-- some were dropped and counted, and the others wait. Each is one of these exactly once: as many
-- packets pass any test before as after.
pub record IsAccount (outputs : ℕ) (before : Querier) (taken : List Packet) (run : QuerierRun) (sent dropped : List Packet) : Type 0 where
  pub once : (test : Packet → Bool) → count_by test (waiting_packets before) + count_by test taken
      ≡ count_by test sent + count_by test dropped + count_by test (waiting_packets run.querier)
  pub left : AreSent outputs run.left sent
  pub counted : run.querier.drops ≡ up_by before.drops (length dropped)

-- The address of a neighbour is a host's. A packet that waits is one for that address, which has no
-- Ethernet address yet, and an Ethernet header fits before the packet.
pub record IsSoundNeighbour (n : Neighbour) : Type 0 where
  pub host : is_host n.address ≡ true
  pub unknown : (p : Packet) → n.waiting ≡ Some p → n.ether ≡ None
  pub own : (p : Packet) → n.waiting ≡ Some p → p.destination ≡ n.address
  pub room : (p : Packet) → n.waiting ≡ Some p → has_header_room p ≡ true

-- each neighbour is sound, their addresses are different, and the drops have 64 bits
pub record IsSoundQuerier (q : Querier) : Type 0 where
  pub each : All IsSoundNeighbour q.table
  pub apart : AllPairs (λ (m n : Neighbour). m.address ≢ n.address) q.table
  pub narrow : q.drops < 2 ^ 64
