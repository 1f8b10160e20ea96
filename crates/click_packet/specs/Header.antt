-- The internet header that begins at the first byte of a packet (RFC 791, section 3.1).
use Rattle.std.specs.Prelude.{◌≡◌, ℕ, ◌+◌, ◌-◌, ◌*◌, ◌/◌, ◌%◌, ◌≤◌, Bool, not, ◌&&◌, List, [], ◌∷◌, length, take, Option, Some, None, option_map, is_some, nat_le, ◌==◌, slice_index, slice_set, if◌then◌else◌, Contains}
use Rattle.std.specs.List.{list_any}
use Rattle.std.specs.Str.{bytes_eq}
use Rattle.click_packet.specs.Checksum.{sum_of_words, ones_sum}

-- the header length in bytes that the first byte states: four times its lower half
abbrev pub stated_len : List ℕ → ℕ
stated_len bytes = slice_index bytes 0 % 16 * 4

-- the stated length, if it is at least 20 and at most the number of bytes
unfoldable pub header_len : List ℕ → Option ℕ
header_len bytes = if nat_le 20 (stated_len bytes) && nat_le (stated_len bytes) (length bytes) then Some (stated_len bytes) else None

-- the bytes of the header
abbrev pub header : List ℕ → List ℕ
header bytes = take (stated_len bytes) bytes

abbrev pub version : List ℕ → ℕ
version bytes = slice_index bytes 0 / 16

-- the total length, of header and data, that bytes 2 and 3 state
abbrev pub total_len : List ℕ → ℕ
total_len bytes = slice_index bytes 2 * 256 + slice_index bytes 3

-- the time to live, if there is a header
abbrev pub ttl : List ℕ → Option ℕ
ttl bytes = option_map (λ _. slice_index bytes 8) (header_len bytes)

abbrev pub checksum_field : List ℕ → ℕ
checksum_field bytes = slice_index bytes 10 * 256 + slice_index bytes 11

abbrev pub source : List ℕ → List ℕ
source bytes = slice_index bytes 12 ∷ slice_index bytes 13 ∷ slice_index bytes 14 ∷ slice_index bytes 15 ∷ []

abbrev pub with_checksum_field : List ℕ → ℕ → List ℕ
with_checksum_field bytes word = slice_set (slice_set bytes 10 (word / 256)) 11 (word % 256)

-- the complement of the ones' complement sum of a header whose checksum field is zero
unfoldable pub checksum : List ℕ → ℕ
checksum header = 65535 - ones_sum (sum_of_words (with_checksum_field header 0))

-- the bytes with another time to live and the checksum for it
unfoldable pub with_ttl : List ℕ → ℕ → List ℕ
with_ttl bytes ttl = let aged = slice_set bytes 8 ttl in with_checksum_field aged (checksum (header aged))

-- A valid header: it is of version 4 and complete, and its words sum to ffff. Its total length lies
-- between its own length and the number of bytes. Its source address is not refused.
pub record IsGoodHeader (bytes : List ℕ) (refused : List (List ℕ)) : Type 0 where
  pub version : version bytes ≡ 4
  pub long : 20 ≤ stated_len bytes
  pub there : stated_len bytes ≤ length bytes
  pub holds_header : stated_len bytes ≤ total_len bytes
  pub holds_data : total_len bytes ≤ length bytes
  pub sum : ones_sum (sum_of_words (header bytes)) ≡ 65535
  pub welcome : Contains refused (source bytes) → ⊥

-- the test for a valid header
unfoldable pub header_good : List ℕ → List (List ℕ) → Bool
header_good bytes refused =
    is_some (header_len bytes)
    && (version bytes == 4)
    && nat_le (stated_len bytes) (total_len bytes)
    && nat_le (total_len bytes) (length bytes)
    && (ones_sum (sum_of_words (header bytes)) == 65535)
    && not (list_any (λ address. bytes_eq address (source bytes)) refused)
