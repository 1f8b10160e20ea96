-- What an element does with a packet (Click element reference). `inputs` and `outputs` are the
-- numbers of its ports.
use Rattle.std.specs.Prelude.{ℕ, ◌+◌, ◌-◌, ◌^◌, ◌==◌, nat_le, nat_lt, min, max, Bool, true, false, ◌&&◌, List, [], ◌∷◌, ◌++◌, length, take, drop, position, slice_index, slice_index_or, slice_get, slice_set, Option, Some, None, is_some, if◌then◌else◌}
use Rattle.std.specs.Str.{bytes_eq}
use Rattle.click_packet.specs.Header.{header_good, ttl, with_ttl}
use Rattle.click_packet.specs.Packet.{Packet}
use Rattle.click_filter.specs.declared.rule.Action.{Action}
use Rattle.click_filter.specs.declared.rule.Action.TheVariants as action
use Rattle.click_patterns.specs.RuleLists.{decided}
use Rattle.click_gateway.specs.Addresses.{is_host, ethernet_of_group}
use Rattle.click_gateway.specs.Arp.{Sender, sender, request_for, ether_header}
use Rattle.click_classes.specs.Gateway.{arp_reply, ping_reply, error_report, host_verdict, frame_mirror, datagram_mirror, checksum_set, header_stripped, udp_encapsulated}
use Rattle.click_classes.specs.Matches.{matches}
use Rattle.click_classes.specs.Neighbours.{Neighbour, most_neighbours, place_of}
use Rattle.click_classes.specs.declared.neighbours.Querier.{Querier}
use Rattle.click_classes.specs.PacketList.{PacketList}
use Rattle.click_classes.specs.Routes.{route}
use Rattle.click_classes.specs.declared.packet_effects.Verdict.{Verdict}
use Rattle.click_classes.specs.declared.packet_effects.Verdict.TheVariants as verdict
use Rattle.click_classes.specs.declared.packet_effects.PortRange.{PortRange}
use Rattle.click_classes.specs.declared.state.State.{State}
use Rattle.click_classes.specs.declared.state.State.TheVariants as state
use Rattle.click_classes.specs.declared.values.entry.Entry.{Entry}
use Rattle.click_classes.specs.declared.values.pattern.Pattern.{Pattern}

-- a count of 64 bits, which stops at 2^64 - 1
abbrev pub up_by : ℕ → ℕ → ℕ
up_by n more = min (n + more) (2 ^ 64 - 1)

-- the port after this one, or port 0 after the last
abbrev pub after : ℕ → ℕ → ℕ
after ports port = if nat_lt (port + 1) ports then port + 1 else 0

-- `count` consecutive ports, beginning with `first`
abbrev pub range : ℕ → ℕ → PortRange
range first count = record { first = first; count = count }

-- ---- packets that pass an element: the same for a packet that is pushed and one that was pulled

-- the state and the packet afterwards, and where the packet goes
pub record PassEffect : Type 0 where
  pub state : State
  pub packet : Packet
  pub verdict : Verdict

-- an effect with these parts
abbrev pub passed : State → Packet → Verdict → PassEffect
passed s p f = record { state = s; packet = p; verdict = f }

-- the four bytes at the offset, or 0.0.0.0 if the packet is too short
abbrev pub address_at : ℕ → List ℕ → List ℕ
address_at offset bytes =
    if nat_le (offset + 4) (length bytes)
    then slice_index bytes offset ∷ slice_index bytes (offset + 1) ∷ slice_index bytes (offset + 2) ∷ slice_index bytes (offset + 3) ∷ []
    else 0 ∷ 0 ∷ 0 ∷ 0 ∷ []

-- the time to live decremented; without a header, or with a time to live of 0 or 1, the packet goes
-- to the side output unchanged (RFC 791, section 3.1)
abbrev pub aged : Packet → Option ℕ → PassEffect
aged p None = passed state.DecIPTTL p verdict.SideOutput
aged p (Some hops) =
    if nat_le hops 1 then passed state.DecIPTTL p verdict.SideOutput
    else passed state.DecIPTTL (record p { bytes = with_ttl p.bytes (hops - 1) }) verdict.Forward

-- the packet with a header before it; it is dropped if it would have more than 1,600 bytes
abbrev pub encapsulated : State → List ℕ → Packet → PassEffect
encapsulated s header p =
    if nat_le (length header + length p.bytes) 1600 then passed s (record p { bytes = header ++ p.bytes }) verdict.Forward
    else passed s p verdict.Dropped

-- a packet that was made is forwarded; if none was made, the given verdict is that on the old one
abbrev pub made_or : State → Option Packet → Packet → Verdict → PassEffect
made_or s None p f = passed s p f
made_or s (Some made) p f = passed s made verdict.Forward

unfoldable pub pass : State → Packet → PassEffect
pass (state.Counter count byte_count) p = passed (state.Counter (up_by count 1) (up_by byte_count (length p.bytes))) p verdict.Forward
pass state.Null p = passed state.Null p verdict.Forward
pass state.PushNull p = passed state.PushNull p verdict.Forward
pass state.PullNull p = passed state.PullNull p verdict.Forward
pass (state.Paint colour) p = passed (state.Paint colour) (record p { paint = colour }) verdict.Forward
pass (state.PaintTee colour) p = passed (state.PaintTee colour) p (if p.paint == colour then verdict.Copied else verdict.Forward)
pass (state.Strip count) p = passed (state.Strip count) (record p { bytes = drop count p.bytes }) verdict.Forward
pass (state.CheckLength most) p = passed (state.CheckLength most) p (if nat_le (length p.bytes) most then verdict.Forward else verdict.SideOutput)
pass (state.GetIPAddress offset) p = passed (state.GetIPAddress offset) (record p { destination = address_at offset p.bytes }) verdict.Forward
pass (state.CheckIPHeader refused) p = passed (state.CheckIPHeader refused) p (if header_good p.bytes refused then verdict.Forward else verdict.SideOutput)
pass state.DecIPTTL p = aged p (ttl p.bytes)
pass (state.EtherEncap header) p = encapsulated (state.EtherEncap header) header p
pass (state.ARPResponder stations) p = made_or (state.ARPResponder stations) (arp_reply stations p) p verdict.SideOutput
pass (state.ICMPError r) p = made_or (state.ICMPError r) (error_report r p) p verdict.Dropped
pass state.ICMPPingResponder p = made_or state.ICMPPingResponder (ping_reply p) p verdict.SideOutput
pass (state.HostEtherFilter ether) p = passed (state.HostEtherFilter ether) p (host_verdict ether p)
pass state.EtherMirror p = made_or state.EtherMirror (frame_mirror p) p verdict.Dropped
pass state.IPMirror p = made_or state.IPMirror (datagram_mirror p) p verdict.Dropped
pass state.SetIPChecksum p = made_or state.SetIPChecksum (checksum_set p) p verdict.Dropped
pass state.StripIPHeader p = made_or state.StripIPHeader (header_stripped p) p verdict.Dropped
pass (state.UDPIPEncap t) p = made_or (state.UDPIPEncap t) (udp_encapsulated t p) p verdict.Dropped
-- no other class passes packets in this way; a packet that is pushed to an Idle or a Discard is
-- dropped
pass s p = passed s p verdict.Dropped

-- ---- a packet is pushed

-- the state and the packet afterwards, and the outputs that get it, in order
pub record PushEffect : Type 0 where
  pub state : State
  pub packet : Packet
  pub outputs : PortRange

-- the packet goes to `count` outputs, beginning with `first`
abbrev pub sent : State → Packet → ℕ → ℕ → PushEffect
sent s p first count = record { state = s; packet = p; outputs = range first count }

-- the packet goes to no output: it was stored or dropped
abbrev pub to_none : State → Packet → PushEffect
to_none s p = sent s p 0 0

-- output 1, if it exists
abbrev pub side_output : ℕ → PortRange
side_output outputs = range 1 (if nat_lt 1 outputs then 1 else 0)

-- output 0, and then output 1 if it exists
abbrev pub both_outputs : ℕ → PortRange
both_outputs outputs = range 0 (if nat_lt 1 outputs then 2 else 1)

-- the outputs that get a pushed packet with this verdict
abbrev pub pushed_to : ℕ → Verdict → PortRange
pushed_to outputs verdict.Forward = range 0 1
pushed_to outputs verdict.Copied = both_outputs outputs
pushed_to outputs verdict.SideOutput = side_output outputs
pushed_to outputs verdict.Dropped = range 0 0

abbrev pub pushed : ℕ → PassEffect → PushEffect
pushed outputs r = record { state = r.state; packet = r.packet; outputs = pushed_to outputs r.verdict }

-- a queue appends the packet; if it is full, it drops the packet and counts a drop
abbrev pub queued : PacketList → ℕ → ℕ → Packet → PushEffect
queued q drops highest p =
    if length q.packets == q.capacity
    then to_none (state.Queue q (up_by drops 1) highest) p
    else to_none (state.Queue (record q { packets = q.packets ++ p ∷ [] }) drops (max (length q.packets + 1) highest)) p

-- a full FrontDropQueue drops its first packet, counts a drop, and appends the new one; with room
-- for no packet it drops the new one
abbrev pub front_dropped : List Packet → PacketList → ℕ → ℕ → Packet → PushEffect
front_dropped [] q drops highest p = to_none (state.FrontDropQueue q (up_by drops 1) highest) p
front_dropped (first ∷ rest) q drops highest p = to_none (state.FrontDropQueue (record q { packets = rest ++ p ∷ [] }) (up_by drops 1) highest) p

-- a FrontDropQueue appends the packet; if it is full, it first drops its oldest one
abbrev pub front_queued : PacketList → ℕ → ℕ → Packet → PushEffect
front_queued q drops highest p =
    if length q.packets == q.capacity
    then front_dropped q.packets q drops highest p
    else to_none (state.FrontDropQueue (record q { packets = q.packets ++ p ∷ [] }) drops (max (length q.packets + 1) highest)) p

-- the packet goes to that output, or to none
abbrev pub switched : State → Option ℕ → Packet → PushEffect
switched s None p = to_none s p
switched s (Some output) p = sent s p output 1

-- the packet, with the gateway as its destination if there is one
abbrev pub via : Packet → Option (List ℕ) → Packet
via p None = p
via p (Some gateway) = record p { destination = gateway }

-- the packet goes to the output of the entry that was found, or to none
abbrev pub routed : State → Option Entry → Packet → PushEffect
routed s None p = to_none s p
routed s (Some e) p = sent s (via p e.gateway) e.output 1

-- packets pass a Suppressor at this port
abbrev pub is_active : List Bool → ℕ → Bool
is_active active port = slice_index_or active port false

-- the output of the first pattern that matches, among at most 256 patterns
abbrev pub classified : List Pattern → List ℕ → Option ℕ
classified patterns bytes = position (λ q. matches q bytes) (take 256 patterns)

-- ---- an ARPQuerier: IP packets arrive at input 0, and ARP packets at input 1

-- the querier with one more packet, and with one more drop
abbrev pub counting : Querier → Querier
counting q = record q { packets = up_by q.packets 1 }

abbrev pub dropping : Querier → Querier
dropping q = record q { drops = up_by q.drops 1 }

-- a packet that has an Ethernet header of 14 bytes before it is not too long
abbrev pub has_header_room : Packet → Bool
has_header_room p = nat_le (14 + length p.bytes) 1600

-- a packet with the Ethernet header before it; a packet that is too long for that is dropped and
-- counted
abbrev pub sent_to : Querier → Packet → List ℕ → PushEffect
sent_to q p to =
    if has_header_room p then sent (state.ARPQuerier q) (record p { bytes = ether_header to q.ether ++ p.bytes }) 0 1
    else to_none (state.ARPQuerier (dropping q)) p

-- the ARP query for a packet's destination replaces the packet: to output 1 if there is one,
-- otherwise to output 0
abbrev pub asked : ℕ → Querier → Packet → PushEffect
asked outputs q p = sent (state.ARPQuerier q) (record p { bytes = request_for q.ip q.ether p.destination }) (if nat_lt 1 outputs then 1 else 0) 1

-- A packet waits for the neighbour with that index. It replaces one that waited, which counts as
-- dropped.
abbrev pub waiting_for : Querier → ℕ → Neighbour → Packet → Querier
waiting_for q place n p = record q {
  table = slice_set q.table place (record n { waiting = Some p; used = q.packets });
  drops = if is_some n.waiting then up_by q.drops 1 else q.drops;
}

-- the querier in which the neighbour with that index was used
abbrev pub using : Querier → ℕ → Neighbour → Querier
using q place n = record q { table = slice_set q.table place (record n { used = q.packets }) }

-- a packet for a neighbour whose Ethernet address may be known
abbrev pub resolved_by : ℕ → Querier → Packet → ℕ → Neighbour → Option (List ℕ) → PushEffect
resolved_by outputs q p place n (Some to) = sent_to (using q place n) p to
resolved_by outputs q p place n None = asked outputs (waiting_for q place n p) p

abbrev pub resolved_at : ℕ → Querier → Packet → ℕ → Option Neighbour → PushEffect
resolved_at outputs q p place None = to_none (state.ARPQuerier q) p
resolved_at outputs q p place (Some n) = resolved_by outputs q p place n n.ether

-- the table with a new last neighbour, for which a packet waits
abbrev pub with_new : Querier → Packet → Querier
with_new q p = record q { table = q.table ++ record { address = p.destination; ether = None; waiting = Some p; used = q.packets } ∷ [] }

-- A packet for one address, by the index of that in the table. A packet for a new address that is
-- not a host's, or for which the table has no room, is dropped and counted.
abbrev pub resolved : ℕ → Querier → Packet → Option ℕ → PushEffect
resolved outputs q p None =
    if is_host p.destination && nat_lt (length q.table) most_neighbours then asked outputs (with_new q p) p
    else to_none (state.ARPQuerier (dropping q)) p
resolved outputs q p (Some place) = resolved_at outputs q p place (slice_get q.table place)

-- a packet for a group goes to the group's Ethernet address, all others by the table
abbrev pub forwarded : ℕ → Querier → Packet → Option (List ℕ) → PushEffect
forwarded outputs q p (Some group) = sent_to q p group
forwarded outputs q p None = resolved outputs q p (place_of q.table p.destination)

-- A packet at input 0. One that is too long for an Ethernet header is dropped and counted, before it
-- could wait.
abbrev pub taken_in : ℕ → Querier → Packet → PushEffect
taken_in outputs q p =
    if has_header_room p then forwarded outputs q p (ethernet_of_group p.destination)
    else to_none (state.ARPQuerier (dropping q)) p

-- the packet that waited leaves, if there is one
abbrev pub let_go : Querier → Packet → List ℕ → Option Packet → PushEffect
let_go q p to None = to_none (state.ARPQuerier q) p
let_go q p to (Some waited) = sent_to q waited to

-- the Ethernet address of a neighbour is known, and no packet waits for it
abbrev pub knowing : Querier → ℕ → Neighbour → List ℕ → Querier
knowing q place n ether = record q { table = slice_set q.table place (record n { ether = Some ether; waiting = None; used = q.packets }) }

abbrev pub learnt_at : Querier → Packet → Sender → ℕ → Option Neighbour → PushEffect
learnt_at q p who place None = to_none (state.ARPQuerier q) p
learnt_at q p who place (Some n) = let_go (knowing q place n who.ether) p who.ether n.waiting

abbrev pub learnt_of : Querier → Packet → Sender → Option ℕ → PushEffect
learnt_of q p who None = to_none (state.ARPQuerier q) p
learnt_of q p who (Some place) = learnt_at q p who place (slice_get q.table place)

-- A packet at input 1. If the sender of an ARP packet is in the table, its Ethernet address is known
-- from then on (RFC 826, "Packet Reception"). All other packets have no effect.
abbrev pub learnt : Querier → Packet → Option Sender → PushEffect
learnt q p None = to_none (state.ARPQuerier q) p
learnt q p (Some who) = learnt_of q p who (place_of q.table who.ip)

-- the output to which rules send a packet, if they do not drop it
abbrev pub output_of : Action → Option ℕ
output_of (action.Output output) = Some output
output_of action.Drop = None

unfoldable pub act : ℕ → State → ℕ → Packet → PushEffect
act outputs (state.Queue q drops highest) input p = queued q drops highest p
act outputs (state.FrontDropQueue q drops highest) input p = front_queued q drops highest p
act outputs (state.Switch output) input p = switched (state.Switch output) output p
act outputs (state.RoundRobinSwitch next) input p = sent (state.RoundRobinSwitch (after outputs next)) p next 1
act outputs (state.Tee n) input p = sent (state.Tee n) p 0 outputs
act outputs (state.Suppressor active) input p = if is_active active input then sent (state.Suppressor active) p input 1 else to_none (state.Suppressor active) p
act outputs (state.Classifier patterns) input p = switched (state.Classifier patterns) (classified patterns p.bytes) p
act outputs (state.StaticIPLookup entries) input p = routed (state.StaticIPLookup entries) (route entries p.destination) p
act outputs (state.IPFilter rules) input p = switched (state.IPFilter rules) (output_of (decided rules p.bytes)) p
act outputs (state.IPClassifier rules) input p = switched (state.IPClassifier rules) (output_of (decided rules p.bytes)) p
act outputs (state.ARPQuerier q) input p =
    if input == 0 then taken_in outputs (counting q) p else learnt q p (sender p.bytes)
-- all other classes pass the packet or drop it
act outputs s input p = pushed outputs (pass s p)

-- ---- a packet is pulled

-- The inputs that a pull asks in order, up to the first packet, determined when the pull begins:
-- `count` of them, beginning with `first`. Input 0 follows the last of `inputs`.
unfoldable pub tries : ℕ → State → ℕ → PortRange
tries inputs (state.PullSwitch None) output = range 0 0
tries inputs (state.PullSwitch (Some input)) output = range input 1
tries inputs (state.RoundRobinSched next) output = range next inputs
tries inputs state.PrioSched output = range 0 inputs
tries inputs (state.PullTee n) output = range 0 1
tries inputs (state.Suppressor active) output = range output (if is_active active output then 1 else 0)
tries inputs (state.Counter count byte_count) output = range 0 1
tries inputs state.Null output = range 0 1
tries inputs state.PullNull output = range 0 1
tries inputs (state.Paint colour) output = range 0 1
tries inputs (state.PaintTee colour) output = range 0 1
tries inputs (state.Strip count) output = range 0 1
tries inputs (state.CheckLength most) output = range 0 1
tries inputs (state.GetIPAddress offset) output = range 0 1
tries inputs (state.CheckIPHeader refused) output = range 0 1
tries inputs state.DecIPTTL output = range 0 1
tries inputs (state.EtherEncap header) output = range 0 1
tries inputs (state.ARPResponder stations) output = range 0 1
tries inputs (state.ICMPError r) output = range 0 1
tries inputs state.ICMPPingResponder output = range 0 1
tries inputs (state.HostEtherFilter ether) output = range 0 1
tries inputs state.EtherMirror output = range 0 1
tries inputs state.IPMirror output = range 0 1
tries inputs state.SetIPChecksum output = range 0 1
tries inputs state.StripIPHeader output = range 0 1
tries inputs (state.UDPIPEncap t) output = range 0 1
-- a queue returns a packet that it has stored, and an Idle returns nothing; no other class has a
-- pull output
tries inputs s output = range 0 0

-- a packet that an element returns without a pull of its own, and the state afterwards
pub record Stored : Type 0 where
  pub packet : Packet
  pub state : State

abbrev pub first_of : List Packet → (List Packet → State) → Option Stored
first_of [] with_rest = None
first_of (p ∷ rest) with_rest = Some (record { packet = p; state = with_rest rest })

unfoldable pub stored : State → Option Stored
stored (state.Queue q drops highest) = first_of q.packets (λ rest. state.Queue (record q { packets = rest }) drops highest)
stored (state.FrontDropQueue q drops highest) = first_of q.packets (λ rest. state.FrontDropQueue (record q { packets = rest }) drops highest)
stored s = None

-- a source may emit one more packet
abbrev pub is_below : Option ℕ → ℕ → Bool
is_below None count = true
is_below (Some limit) count = nat_lt count limit

-- a packet with these bytes, paint 0 and destination 0.0.0.0
abbrev pub fresh_packet : List ℕ → Packet
fresh_packet bytes = record { bytes = bytes; paint = 0; destination = 0 ∷ 0 ∷ 0 ∷ 0 ∷ [] }

-- The packet that a source emits next, if it is active and below its limit, and the state that
-- counts it. Bytes that are too long for a packet are not emitted.
unfoldable pub emission : State → Option Stored
emission (state.InfiniteSource bytes limit burst active count) =
    if active && is_below limit count && nat_le (length bytes) 1600
    then Some (record { packet = fresh_packet bytes; state = state.InfiniteSource bytes limit burst active (up_by count 1) })
    else None
emission s = None

-- the maximum number of packets that a source emits when its task runs once
abbrev pub burst_of : State → ℕ
burst_of (state.InfiniteSource bytes limit burst active count) = burst
burst_of s = 0

-- the effect of a packet that was pulled through an input: the state and the packet afterwards, the
-- outputs that get copies first, and whether the pull returns the packet
pub record PullEffect : Type 0 where
  pub state : State
  pub packet : Packet
  pub copies : PortRange
  pub answers : Bool

-- the pull returns the packet, and no output gets a copy
abbrev pub answered : State → Packet → PullEffect
answered s p = record { state = s; packet = p; copies = range 0 0; answers = true }

-- the outputs that get copies of a pulled packet with this verdict, and whether the pull returns
-- the packet
abbrev pub copied_to : ℕ → Verdict → PortRange
copied_to outputs verdict.Forward = range 0 0
copied_to outputs verdict.Copied = side_output outputs
copied_to outputs verdict.SideOutput = side_output outputs
copied_to outputs verdict.Dropped = range 0 0

abbrev pub is_answer : Verdict → Bool
is_answer verdict.Forward = true
is_answer verdict.Copied = true
is_answer verdict.SideOutput = false
is_answer verdict.Dropped = false

abbrev pub pulled : ℕ → PassEffect → PullEffect
pulled outputs r = record { state = r.state; packet = r.packet; copies = copied_to outputs r.verdict; answers = is_answer r.verdict }

unfoldable pub gives : ℕ → ℕ → State → ℕ → Packet → PullEffect
gives inputs outputs (state.PullSwitch from) input p = answered (state.PullSwitch from) p
gives inputs outputs (state.RoundRobinSched next) input p = answered (state.RoundRobinSched (after inputs input)) p
gives inputs outputs state.PrioSched input p = answered state.PrioSched p
gives inputs outputs (state.Suppressor active) input p = answered (state.Suppressor active) p
gives inputs outputs (state.PullTee n) input p = record { state = state.PullTee n; packet = p; copies = range 1 (outputs - 1); answers = true }
-- all other classes pass the packet, push it to the side output, or drop it
gives inputs outputs s input p = pulled outputs (pass s p)

-- ---- devices

-- whether the element is the FromDevice, or the ToDevice, of that device
abbrev pub is_source : List ℕ → State → Bool
is_source name (state.FromDevice device) = bytes_eq device name
is_source name s = false

abbrev pub is_sink : List ℕ → State → Bool
is_sink name (state.ToDevice device) = bytes_eq device name
is_sink name s = false
