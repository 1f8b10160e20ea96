-- ARP packets in Ethernet frames (RFC 826): requests for an IP address, and replies with the
-- Ethernet address of its host.
use Rattle.std.specs.Prelude.{ℕ, ◌%◌, ◌==◌, nat_le, Bool, ◌&&◌, ◌||◌, List, [], ◌∷◌, ◌++◌, length, take, drop, slice_index, Option, Some, None, if◌then◌else◌}
use Rattle.std.specs.Str.{bytes_eq}
use Rattle.click_gateway.specs.Addresses.{four, six, broadcast_ether}

abbrev pub request : ℕ
request = 1

abbrev pub reply : ℕ
reply = 2

-- Bytes 12 to 21 of a frame with an ARP packet for Ethernet and IPv4. They are the type 0806, the
-- hardware 1, the protocol 0800, the lengths of addresses 6 and 4, and the opcode.
abbrev pub arp_format : ℕ → List ℕ
arp_format opcode = 8 ∷ 6 ∷ 0 ∷ 1 ∷ 8 ∷ 0 ∷ 6 ∷ 4 ∷ 0 ∷ opcode ∷ []

-- whether a frame has an ARP packet with that opcode: at least 42 bytes, and these ten
abbrev pub is_arp : ℕ → List ℕ → Bool
is_arp opcode frame = nat_le 42 (length frame) && bytes_eq (take 10 (drop 12 frame)) (arp_format opcode)

-- the sender's Ethernet address and IP address, and the requested IP address
abbrev pub sender_ether : List ℕ → List ℕ
sender_ether frame = six 22 frame

abbrev pub sender_ip : List ℕ → List ℕ
sender_ip frame = four 28 frame

abbrev pub target_ip : List ℕ → List ℕ
target_ip frame = four 38 frame

-- the frame of 42 bytes to an Ethernet address, with both addresses of the sender and of the target
abbrev pub arp_frame : List ℕ → ℕ → List ℕ → List ℕ → List ℕ → List ℕ → List ℕ
arp_frame to opcode ether ip target_ether target_ip = to ++ (ether ++ (arp_format opcode ++ (ether ++ (ip ++ (target_ether ++ target_ip)))))

-- the address that a request asks for
unfoldable pub requested : List ℕ → Option (List ℕ)
requested frame = if is_arp request frame then Some (target_ip frame) else None

-- The reply to a request by a station with this Ethernet address: to the sender, with the requested
-- address as that of the station (RFC 826, "Packet Reception").
unfoldable pub reply_to : List ℕ → List ℕ → List ℕ
reply_to ether frame = arp_frame (sender_ether frame) reply ether (target_ip frame) (sender_ether frame) (sender_ip frame)

-- The request for an address that a station with these addresses broadcasts (RFC 826, "Packet
-- Generation").
unfoldable pub request_for : List ℕ → List ℕ → List ℕ → List ℕ
request_for ip ether wanted = arp_frame broadcast_ether request ether ip (0 ∷ 0 ∷ 0 ∷ 0 ∷ 0 ∷ 0 ∷ []) wanted

-- the sender of an ARP packet, a request or a reply
pub record Sender : Type 0 where
  pub ip : List ℕ
  pub ether : List ℕ

-- the Ethernet address of one station: the low bit of its first byte is not set (IEEE 802.3)
abbrev pub is_station : List ℕ → Bool
is_station ether = slice_index ether 0 % 2 == 0

-- The sender of an ARP packet, unless it claims the Ethernet address of a group, which no router
-- may believe (RFC 1812, section 3.3.2).
unfoldable pub sender : List ℕ → Option Sender
sender frame =
    if (is_arp request frame || is_arp reply frame) && is_station (sender_ether frame)
    then Some (record { ip = sender_ip frame; ether = sender_ether frame })
    else None

-- the Ethernet header of an IP datagram: to, from, and type 0800 (RFC 894)
abbrev pub ether_header : List ℕ → List ℕ → List ℕ
ether_header to from = to ++ (from ++ 8 ∷ 0 ∷ [])
