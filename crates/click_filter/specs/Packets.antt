-- Parts of an IP packet, whose first byte is the first of its header (RFC 791, section 3.1). A part
-- is there, and is a number, if the packet has all of its bytes.
use Rattle.std.specs.Prelude.{ℕ, ◌+◌, ◌*◌, ◌%◌, List, [], ◌∷◌, length, Bool, false, not, ◌||◌, ◌&&◌, nat_eq, nat_lt, nat_le, slice_index, Option, Some, None, option_and_then, if◌then◌else◌}
use Rattle.std.specs.Int.{w32, from_be_bytes}
use Rattle.click_filter.specs.declared.test.Transport.{Transport}
use Rattle.click_filter.specs.declared.test.Transport.TheVariants as transport

abbrev pub byte_at : ℕ → List ℕ → Option ℕ
byte_at i b = if nat_lt i (length b) then Some (slice_index b i) else None

-- two bytes, the more significant first
abbrev pub word_at : ℕ → List ℕ → Option ℕ
word_at i b = if nat_lt (i + 1) (length b) then Some (slice_index b i * 256 + slice_index b (i + 1)) else None

-- four bytes, the most significant first
abbrev pub address_at : ℕ → List ℕ → Option ℕ
address_at i b =
    if nat_lt (i + 3) (length b)
    then Some (from_be_bytes w32 (slice_index b i ∷ slice_index b (i + 1) ∷ slice_index b (i + 2) ∷ slice_index b (i + 3) ∷ []))
    else None

-- the flags DF and MF, and the fragment offset
abbrev pub fragment_word : List ℕ → Option ℕ
fragment_word b = word_at 6 b

-- the flag MF is set or the fragment offset is not 0
abbrev pub is_fragment : Option ℕ → Bool
is_fragment None = false
is_fragment (Some word) = not (nat_eq (word % 16384) 0)

-- The offset of the transport header, of a packet with this first byte and this fragment word. It
-- lies behind a header of at least five words of four bytes, and in first fragments only.
abbrev pub begins : Option ℕ → Option ℕ → Option ℕ
begins (Some first) (Some word) = if nat_le 5 (first % 16) && nat_eq (word % 8192) 0 then Some (first % 16 * 4) else None
begins (Some first) None = None
begins None word = None

abbrev pub transport_at : List ℕ → Option ℕ
transport_at b = begins (byte_at 0 b) (fragment_word b)

-- the protocols that have the ports of a test: TCP is 6, and UDP is 17
abbrev pub carries : Transport → ℕ → Bool
carries transport.Tcp protocol = nat_eq protocol 6
carries transport.Udp protocol = nat_eq protocol 17
carries transport.TcpOrUdp protocol = nat_eq protocol 6 || nat_eq protocol 17

-- a part at this offset in the transport header, if the packet's protocol passes a test
abbrev pub with_protocol : (ℕ → Bool) → (ℕ → List ℕ → Option ℕ) → ℕ → List ℕ → Option ℕ
with_protocol test part offset b = option_and_then
    (λ protocol. if test protocol then option_and_then (λ at. part (at + offset) b) (transport_at b) else None) (byte_at 9 b)

-- the source port is at offset 0, and the destination port at 2
abbrev pub port : Transport → ℕ → List ℕ → Option ℕ
port t offset b = with_protocol (carries t) word_at offset b

abbrev pub tcp_flags : List ℕ → Option ℕ
tcp_flags b = with_protocol (λ protocol. nat_eq protocol 6) byte_at 13 b

abbrev pub icmp_type : List ℕ → Option ℕ
icmp_type b = with_protocol (λ protocol. nat_eq protocol 1) byte_at 0 b
