-- UDP datagrams in IP datagrams (RFC 768).
use Rattle.std.specs.Prelude.{ℕ, ◌+◌, ◌-◌, ◌/◌, ◌%◌, ◌==◌, List, [], ◌∷◌, ◌++◌, length, if◌then◌else◌}
use Rattle.click_packet.specs.Checksum.{sum_of_words, ones_sum}
use Rattle.click_gateway.specs.Datagrams.{datagram_of}

-- a number of 16 bits as two bytes, with the high byte first
abbrev pub two : ℕ → List ℕ
two n = (n / 256) ∷ (n % 256) ∷ []

-- The bytes whose sum is checked: the pseudo header, of both addresses, a zero, the protocol and the
-- length, and then the segment.
abbrev pub with_pseudo_header : List ℕ → List ℕ → ℕ → List ℕ → List ℕ
with_pseudo_header source destination len segment = source ++ (destination ++ 0 ∷ 17 ∷ (len / 256) ∷ (len % 256) ∷ segment)

-- the segment with this checksum
abbrev pub segment_with : ℕ → ℕ → ℕ → List ℕ → List ℕ
segment_with source_port destination_port sum content =
    two source_port ++ (two destination_port ++ (two (length content + 8) ++ (two sum ++ content)))

-- the checksum that is sent: ffff instead of 0, since 0 stands for no checksum
abbrev pub sent_sum : ℕ → ℕ
sent_sum sum = if sum == 0 then 65535 else sum

-- The segment with its checksum: the complement of the sum over the pseudo header and the segment,
-- with a checksum of zero.
unfoldable pub segment : List ℕ → ℕ → List ℕ → ℕ → List ℕ → List ℕ
segment source source_port destination destination_port content =
    let bare = segment_with source_port destination_port 0 content in
    let sum = ones_sum (sum_of_words (with_pseudo_header source destination (length content + 8) bare)) in
    segment_with source_port destination_port (sent_sum (65535 - sum)) content

-- The IP datagram with the segment, with a time to live of 250 (Click element reference). It may not
-- be fragmented, so its identification has no meaning and is 0 (RFC 6864, section 4.1).
unfoldable pub udp_datagram : List ℕ → ℕ → List ℕ → ℕ → List ℕ → List ℕ
udp_datagram source source_port destination destination_port content =
    datagram_of (record { protocol = 17; service = 0; id_high = 0; id_low = 0; flags = 64; hops = 250 }) source destination
    (segment source source_port destination destination_port content)
