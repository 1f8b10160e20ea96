-- The fields of a datagram that is written byte by byte.
use Rattle.std.proofs.Common.{◌≡◌, ℕ, ◌+◌, ◌-◌, ◌*◌, ◌/◌, ◌%◌, ◌≤◌, true, List, [], ◌∷◌, length, get_or, take, refl, subst, ◌∙◌, ap, arith}
use Rattle.std.proofs.Math.Seq.{take-length}
use Rattle.click_packet.specs.Checksum.{sum_of_words, ones_sum}
use Rattle.click_packet.specs.Header.{stated_len, total_len, source, with_ttl, with_checksum_field, checksum, header, header_good}
use Rattle.click_packet.proofs.Sums.{complement_sums}
use Rattle.click_packet.proofs.Headers.{sum_of_words-field, header_len-some, header_good-fields, nobody_refused}
use Rattle.click_gateway.specs.Datagrams.{HeaderFields, destination, datagram_of}
use Rattle.click_gateway.specs.Icmp.{carried}
use Rattle.click_gateway.proofs.Fronts.{four-bytes}

-- with its checksum in the field, a header sums to ffff
pub checksum-sums : (xs : List ℕ) → 12 ≤ length xs → ones_sum (sum_of_words (with_checksum_field xs (checksum xs))) ≡ 65535
unfolding checksum
checksum-sums xs long =
    let bare = sum_of_words (with_checksum_field xs 0) in
    let word = 65535 - ones_sum bare in
    let e : sum_of_words (with_checksum_field xs word) ≡ bare + word = omega (arith, sum_of_words-field xs 0 long, sum_of_words-field xs word long) in
    ap ones_sum e ∙ complement_sums bare word refl

-- what a datagram states, and what it carries
pub record Carries (fields : HeaderFields) (bytes from to message : List ℕ) : Type 0 where
  pub good : header_good bytes [] ≡ true
  pub source : source bytes ≡ from
  pub destination : destination bytes ≡ to
  pub carried : carried bytes ≡ message
  pub protocol : get_or bytes 9 0 ≡ fields.protocol
  pub header : stated_len bytes ≡ 20
  pub kind : get_or bytes 20 0 ≡ get_or message 0 0
  pub len : length bytes ≡ 20 + length message

carries_bytes : (fields : HeaderFields) (a b c d e f g h : ℕ) (message : List ℕ) → let from = a ∷ b ∷ c ∷ d ∷ [] in let to = e ∷ f ∷ g ∷ h ∷ [] in
    Carries fields (datagram_of fields from to message) from to message
unfolding datagram_of with_ttl
carries_bytes fields a b c d e f g h message =
    let total = length message + 20 in
    let aged = 69 ∷ fields.service ∷ (total / 256) ∷ (total % 256) ∷ fields.id_high ∷ fields.id_low ∷ fields.flags ∷ 0 ∷ fields.hops ∷ fields.protocol ∷ 0 ∷ 0 ∷ a ∷ b ∷ c ∷ d ∷ e ∷ f ∷ g ∷ h ∷ [] in
    let bytes = datagram_of fields (a ∷ b ∷ c ∷ d ∷ []) (e ∷ f ∷ g ∷ h ∷ []) message in
    let stated : stated_len bytes ≡ 20 = refl in
    let states : total_len bytes ≡ total / 256 * 256 + total % 256 = refl in
    let w = checksum aged in
    let all = 69 ∷ fields.service ∷ (total / 256) ∷ (total % 256) ∷ fields.id_high ∷ fields.id_low ∷ fields.flags ∷ 0 ∷ fields.hops ∷ fields.protocol ∷ (w / 256) ∷ (w % 256) ∷ a ∷ b ∷ c ∷ d ∷ e ∷ f ∷ g ∷ h ∷ message in
    let count : length all ≡ 20 + length message = omega arith in
    let len : length bytes ≡ 20 + length message = count in
    let n : total_len bytes - stated_len bytes ≡ length message = omega (arith, states, stated) in
    let sum : ones_sum (sum_of_words (header bytes)) ≡ 65535 = checksum-sums aged (omega arith) in
    record {
      good =
          header_good-fields bytes [] (header_len-some bytes (omega (arith, stated)) (omega (arith, stated, len))) refl
          (omega (arith, states, stated)) (omega (arith, states, len)) sum
          ∙ nobody_refused bytes [] refl;
      source = refl;
      destination = refl;
      carried = ap (λ (k : ℕ). take k message) n ∙ take-length message;
      protocol = refl;
      header = stated;
      kind = refl;
      len = len;
    }

pub datagram-carries : (fields : HeaderFields) (from to message : List ℕ) → length from ≡ 4 → length to ≡ 4 → Carries fields (datagram_of fields from to message) from to message
datagram-carries fields from to message n m =
    subst (λ (xs : List ℕ). Carries fields (datagram_of fields xs to message) xs to message) (four-bytes from n)
    (subst (λ (ys : List ℕ). let xs = get_or from 0 0 ∷ get_or from 1 0 ∷ get_or from 2 0 ∷ get_or from 3 0 ∷ [] in Carries fields (datagram_of fields xs ys message) xs ys message) (four-bytes to m)
    (carries_bytes fields (get_or from 0 0) (get_or from 1 0) (get_or from 2 0) (get_or from 3 0) (get_or to 0 0) (get_or to 1 0) (get_or to 2 0) (get_or to 3 0) message))

-- the fields of an ICMP datagram
abbrev pub icmp_fields : ℕ → ℕ → ℕ → HeaderFields
icmp_fields service high low = record { protocol = 1; service = service; id_high = high; id_low = low; flags = 0; hops = 64 }
