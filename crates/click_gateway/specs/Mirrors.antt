-- Frames and datagrams whose addresses are exchanged or whose headers are mended or removed (Click
-- element reference: HostEtherFilter, EtherMirror, IPMirror, SetIPChecksum, StripIPHeader).
use Rattle.std.specs.Prelude.{ℕ, ◌+◌, ◌%◌, ◌==◌, nat_le, Bool, ◌&&◌, ◌||◌, List, ◌∷◌, ◌++◌, length, take, drop, slice_index, if◌then◌else◌}
use Rattle.std.specs.Str.{bytes_eq}
use Rattle.click_packet.specs.Header.{stated_len, header, with_checksum_field, checksum}
use Rattle.click_gateway.specs.Addresses.{four, six}
use Rattle.click_gateway.specs.Icmp.{is_first_piece}

-- ---- Ethernet frames: the destination, the source, the type of two bytes, and the data

abbrev pub is_frame : List ℕ → Bool
is_frame frame = nat_le 14 (length frame)

-- the frame is for the station with this address
abbrev pub is_for : List ℕ → List ℕ → Bool
is_for ether frame = is_frame frame && bytes_eq (six 0 frame) ether

-- The frame is for a group: the low bit of its first byte is set (IEEE 802.3). The broadcast address
-- is that of a group.
abbrev pub is_for_group : List ℕ → Bool
is_for_group frame = is_frame frame && (slice_index frame 0 % 2 == 1)

-- the frame with its two addresses exchanged
unfoldable pub mirrored_frame : List ℕ → List ℕ
mirrored_frame frame = six 6 frame ++ (six 0 frame ++ drop 12 frame)

-- ---- IP datagrams with a header (`header_len`)

-- the two addresses exchanged, which are bytes 12 to 15 and 16 to 19
unfoldable pub mirrored_addresses : List ℕ → List ℕ
mirrored_addresses bytes = take 12 bytes ++ (four 16 bytes ++ (four 12 bytes ++ drop 20 bytes))

-- A datagram that is not fragmented, or a first fragment, of TCP (protocol 6) or UDP (17). The four
-- bytes after its header are there. They are the source port and the destination port.
abbrev pub has_ports : List ℕ → Bool
has_ports bytes =
    ((slice_index bytes 9 == 6) || (slice_index bytes 9 == 17)) && is_first_piece bytes && nat_le (stated_len bytes + 4) (length bytes)

-- the two ports exchanged, which are the four bytes from an offset on
unfoldable pub mirrored_ports : ℕ → List ℕ → List ℕ
mirrored_ports at bytes =
    take at bytes ++ slice_index bytes (at + 2) ∷ slice_index bytes (at + 3) ∷ slice_index bytes at ∷ slice_index bytes (at + 1) ∷ drop (at + 4) bytes

-- The datagram with the two addresses exchanged, and the two ports if it has them. The sums of the
-- header and of the segment stay right, because the order of words does not change a sum (RFC 1071).
abbrev pub mirrored : List ℕ → List ℕ
mirrored bytes = let turned = mirrored_addresses bytes in if has_ports bytes then mirrored_ports (stated_len bytes) turned else turned

-- the datagram with the right checksum of its header (RFC 791, section 3.1)
unfoldable pub with_checksum : List ℕ → List ℕ
with_checksum bytes = with_checksum_field bytes (checksum (header bytes))

-- what follows the header
abbrev pub without_header : List ℕ → List ℕ
without_header bytes = drop (stated_len bytes) bytes
