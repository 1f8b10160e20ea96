-- ICMP messages in IP datagrams (RFC 792): the reply to an echo request, and the report of an error
-- (RFC 1122, section 3.2.2; RFC 1812, section 4.3).
use Rattle.std.specs.Prelude.{ℕ, ◌+◌, ◌-◌, ◌/◌, ◌%◌, ◌==◌, nat_le, min, Bool, not, ◌&&◌, ◌||◌, List, [], ◌∷◌, ◌++◌, take, drop, slice_index}
use Rattle.std.specs.List.{list_any}
use Rattle.click_packet.specs.Checksum.{sum_of_words, ones_sum}
use Rattle.click_packet.specs.Header.{stated_len, total_len, source, header_good}
use Rattle.click_gateway.specs.Addresses.{is_host}
use Rattle.click_gateway.specs.Datagrams.{destination, datagram_of}

-- what a datagram carries after its header, without the bytes of the frame after the datagram
abbrev pub carried : List ℕ → List ℕ
carried bytes = take (total_len bytes - stated_len bytes) (drop (stated_len bytes) bytes)

-- ---- messages and datagrams

-- A message with a type, a code and the bytes after its checksum. The checksum is the complement of
-- the ones' complement sum over the message with the checksum zero (RFC 792).
unfoldable pub message : ℕ → ℕ → List ℕ → List ℕ
message kind code rest =
    let sum = 65535 - ones_sum (sum_of_words (kind ∷ code ∷ 0 ∷ 0 ∷ rest)) in kind ∷ code ∷ (sum / 256) ∷ (sum % 256) ∷ rest

-- A datagram of protocol ICMP that is not fragmented, with a time to live of 64 (RFC 1812, section
-- 4.2.2.9).
abbrev pub datagram : ℕ → ℕ → ℕ → List ℕ → List ℕ → List ℕ → List ℕ
datagram service id_high id_low source destination message =
    datagram_of (record { protocol = 1; service = service; id_high = id_high; id_low = id_low; flags = 0; hops = 64 }) source destination message

-- ---- echo

-- the datagram is not fragmented: no fragments follow it, and it is no later fragment
abbrev pub is_in_one_piece : List ℕ → Bool
is_in_one_piece bytes = (slice_index bytes 6 % 64 == 0) && (slice_index bytes 7 == 0)

-- An echo request: a datagram with a good header without options, of protocol ICMP, from one host
-- to one host, which is not fragmented. Its message has at least eight bytes, type 8, code 0 and
-- the sum ffff. A request with options is left out, because its reply would have to reverse a
-- source route (RFC 1122, section 3.2.2.6).
abbrev pub is_echo_request : List ℕ → Bool
is_echo_request bytes =
    header_good bytes []
    && (stated_len bytes == 20)
    && (slice_index bytes 9 == 1)
    && is_in_one_piece bytes
    && is_host (source bytes)
    && is_host (destination bytes)
    && nat_le (stated_len bytes + 8) (total_len bytes)
    && (slice_index bytes (stated_len bytes) == 8)
    && (slice_index bytes (stated_len bytes + 1) == 0)
    && (ones_sum (sum_of_words (carried bytes)) == 65535)

-- The reply: a message of type 0 with all bytes after the request's checksum. It goes from the
-- address that was asked to the one that asked. The type of service and the identification are
-- those of the request (RFC 1122, section 3.2.2.6; RFC 1812, sections 4.3.2.5 and 4.3.3.6).
unfoldable pub echo_reply : List ℕ → List ℕ
echo_reply bytes =
    datagram (slice_index bytes 1) (slice_index bytes 4) (slice_index bytes 5) (destination bytes) (source bytes) (message 0 0 (drop 4 (carried bytes)))

-- ---- errors

-- the datagram is not fragmented, or is the first fragment
abbrev pub is_first_piece : List ℕ → Bool
is_first_piece bytes = (slice_index bytes 6 % 32 == 0) && (slice_index bytes 7 == 0)

-- an ICMP message that reports an error, or that is cut off before its type
abbrev pub is_error : List ℕ → Bool
is_error bytes =
    (slice_index bytes 9 == 1)
    && (nat_le (total_len bytes) (stated_len bytes) || list_any (λ kind. kind == slice_index bytes (stated_len bytes)) (3 ∷ 4 ∷ 5 ∷ 11 ∷ 12 ∷ []))

-- Whether an error may be sent about a datagram. It must have a good header, from one host to one
-- host. It must be no later fragment, and report no error itself (RFC 1122, section 3.2.2; RFC
-- 1812, section 4.3.2.7).
abbrev pub may_report : List ℕ → Bool
may_report bytes =
    header_good bytes [] && is_first_piece bytes && is_host (source bytes) && is_host (destination bytes) && not (is_error bytes)

-- The report: from the router's address to the datagram's source, with precedence 6 and the
-- datagram's type of service. The message has the type, the code, four further bytes, and as many
-- bytes of the datagram as make at most 576 in all (RFC 1812, sections 4.3.2.3 to 4.3.2.5).
unfoldable pub report_of : List ℕ → ℕ → ℕ → List ℕ → List ℕ → List ℕ
report_of own kind code further bytes =
    datagram (192 + slice_index bytes 1 % 32) 0 0 own (source bytes) (message kind code (further ++ take (min (total_len bytes) 548) bytes))
