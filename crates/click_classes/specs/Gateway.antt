-- What the classes of the gateway package make of a packet, if they make something of it; and where a
-- HostEtherFilter sends it.
use Rattle.std.specs.Prelude.{ℕ, ◌+◌, ◌/◌, ◌%◌, ◌==◌, nat_le, ◌&&◌, List, [], ◌∷◌, length, find, Option, Some, None, is_some, if◌then◌else◌}
use Rattle.std.specs.List.{list_any}
use Rattle.click_packet.specs.Header.{source, header_len}
use Rattle.click_packet.specs.Packet.{Packet}
use Rattle.click_gateway.specs.Arp.{requested, reply_to}
use Rattle.click_gateway.specs.Icmp.{is_echo_request, echo_reply, may_report, report_of}
use Rattle.click_gateway.specs.Mirrors.{is_frame, is_for, is_for_group, mirrored_frame, mirrored, with_checksum, without_header}
use Rattle.click_gateway.specs.Udp.{udp_datagram}
use Rattle.click_gateway.specs.declared.udp.Tunnel.{Tunnel}
use Rattle.click_classes.specs.Routes.{covers}
use Rattle.click_classes.specs.declared.packet_effects.Verdict.{Verdict}
use Rattle.click_classes.specs.declared.packet_effects.Verdict.TheVariants as verdict
use Rattle.click_classes.specs.declared.values.report.Report.{Report}
use Rattle.click_classes.specs.declared.values.station.Station.{Station}

-- the first station with an address
abbrev pub station_for : List Station → List ℕ → Option Station
station_for stations address = find (λ (s : Station). list_any (λ f. covers f address) s.prefixes) stations

-- the reply to an ARP request by a station
abbrev pub replied : Packet → Option Station → Option Packet
replied p None = None
replied p (Some s) = Some (record p { bytes = reply_to s.ether p.bytes })

abbrev pub arp_reply_for : List Station → Packet → Option (List ℕ) → Option Packet
arp_reply_for stations p None = None
arp_reply_for stations p (Some address) = replied p (station_for stations address)

-- ARPResponder: the reply to an ARP request for an address of its stations (RFC 826)
abbrev pub arp_reply : List Station → Packet → Option Packet
arp_reply stations p = arp_reply_for stations p (requested p.bytes)

-- ICMPPingResponder: the reply to an echo request; its destination annotation is the host that asked
-- (RFC 792; RFC 1122, section 3.2.2.6)
abbrev pub ping_reply : Packet → Option Packet
ping_reply p = if is_echo_request p.bytes then Some (record p { bytes = echo_reply p.bytes; destination = source p.bytes }) else None

-- The four bytes after the checksum of a report. A redirect (5) has the address of the gateway, which
-- is the packet's destination annotation (RFC 792). "Fragmentation needed" (type 3, code 4) has the
-- MTU of the next hop in its last two bytes (RFC 1191, section 4). All other reports have zeros.
abbrev pub further : Report → Packet → List ℕ
further r p =
    if r.kind == 5 then p.destination
    else if (r.kind == 3) && (r.code == 4) then 0 ∷ 0 ∷ (r.mtu / 256) ∷ (r.mtu % 256) ∷ []
    else 0 ∷ 0 ∷ 0 ∷ 0 ∷ []

-- ICMPError: the report of an error about a packet, if one may be sent (RFC 792; RFC 1812,
-- section 4.3)
abbrev pub error_report : Report → Packet → Option Packet
error_report r p =
    if may_report p.bytes then Some (record p { bytes = report_of r.own r.kind r.code (further r p) p.bytes; destination = source p.bytes }) else None

-- HostEtherFilter: where a packet goes. A frame for this station goes on, one for a group goes to the
-- side output, and every other packet is dropped.
abbrev pub host_verdict : List ℕ → Packet → Verdict
host_verdict ether p = if is_for ether p.bytes then verdict.Forward else if is_for_group p.bytes then verdict.SideOutput else verdict.Dropped

-- EtherMirror: the frame with its two addresses exchanged
abbrev pub frame_mirror : Packet → Option Packet
frame_mirror p = if is_frame p.bytes then Some (record p { bytes = mirrored_frame p.bytes }) else None

-- IPMirror: the datagram with its addresses exchanged, and its ports if it has them. Its destination
-- annotation is its new destination.
abbrev pub datagram_mirror : Packet → Option Packet
datagram_mirror p =
    if is_some (header_len p.bytes) then Some (record p { bytes = mirrored p.bytes; destination = source p.bytes }) else None

-- SetIPChecksum: the datagram with the right checksum in its header (RFC 791, section 3.1)
abbrev pub checksum_set : Packet → Option Packet
checksum_set p = if is_some (header_len p.bytes) then Some (record p { bytes = with_checksum p.bytes }) else None

-- StripIPHeader: what follows the header
abbrev pub header_stripped : Packet → Option Packet
header_stripped p = if is_some (header_len p.bytes) then Some (record p { bytes = without_header p.bytes }) else None

-- UDPIPEncap: the packet in a UDP datagram, if that has at most 1,600 bytes. Its destination
-- annotation is the other end of the tunnel (RFC 768).
abbrev pub udp_encapsulated : Tunnel → Packet → Option Packet
udp_encapsulated t p =
    if nat_le (28 + length p.bytes) 1600
    then Some (record p { bytes = udp_datagram t.source t.source_port t.destination t.destination_port p.bytes; destination = t.destination })
    else None
