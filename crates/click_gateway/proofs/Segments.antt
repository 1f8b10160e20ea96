-- The sum and the parts of UDP segments.
use Rattle.std.proofs.Common.{◌≡◌, ℕ, ◌+◌, ◌-◌, ◌==◌, List, [], ◌∷◌, length, get_or, drop, refl, ap, ◌∙◌, arith, inl, inr}
use Rattle.std.proofs.lemmas.Bool.{cases_Bool}
use Rattle.std.proofs.lemmas.Bool.Decides.{Decides-eqb}
use Rattle.click_packet.specs.Checksum.{sum_of_words, ones_sum}
use Rattle.click_packet.proofs.Sums.{sum_of_words-total, complement_sums, ones_sums}
use Rattle.click_gateway.specs.Datagrams.{HeaderFields}
use Rattle.click_gateway.specs.Udp.{with_pseudo_header, segment_with, sent_sum, segment, udp_datagram}
use Rattle.click_gateway.proofs.Carries.{Carries, datagram-carries}
use Rattle.click_gateway.proofs.Fronts.{four-bytes}

-- the sum that is sent makes ones
sent-sums : (bare : ℕ) → ones_sum (bare + sent_sum (65535 - ones_sum bare)) ≡ 65535
sent-sums bare =
    let w = 65535 - ones_sum bare in
    elim (cases_Bool (w == 0)) [
      | inl t ↦ rw t (ones_sums bare 65535 ((Decides-eqb w 0).0 t) refl)
      | inr t ↦ rw t (complement_sums bare w refl)
    ]

sums-bytes : (sp dp a b c d e f g h : ℕ) (content : List ℕ) → let from = a ∷ b ∷ c ∷ d ∷ [] in let to = e ∷ f ∷ g ∷ h ∷ [] in
    ones_sum (sum_of_words (with_pseudo_header from to (length content + 8) (segment from sp to dp content))) ≡ 65535
unfolding segment
sums-bytes sp dp a b c d e f g h content =
    let from = a ∷ b ∷ c ∷ d ∷ [] in
    let to = e ∷ f ∷ g ∷ h ∷ [] in
    let len = length content + 8 in
    let zero = with_pseudo_header from to len (segment_with sp dp 0 content) in
    let bare = sum_of_words zero in
    let w = sent_sum (65535 - ones_sum bare) in
    let whole = with_pseudo_header from to len (segment_with sp dp w content) in
    let more : sum_of_words whole ≡ bare + w = omega (arith, sum_of_words-total zero, sum_of_words-total whole) in
    ap ones_sum more ∙ sent-sums bare

-- the checksum of a segment is right
pub segment-sums : (sp dp : ℕ) (from to content : List ℕ) → length from ≡ 4 → length to ≡ 4 →
    ones_sum (sum_of_words (with_pseudo_header from to (length content + 8) (segment from sp to dp content))) ≡ 65535
segment-sums sp dp from to content n m =
    rw (← four-bytes from n, ← four-bytes to m)
    (sums-bytes sp dp (get_or from 0 0) (get_or from 1 0) (get_or from 2 0) (get_or from 3 0) (get_or to 0 0) (get_or to 1 0) (get_or to 2 0) (get_or to 3 0) content)

pub segment-content : (sp dp : ℕ) (from to content : List ℕ) → drop 8 (segment from sp to dp content) ≡ content
unfolding segment
segment-content sp dp from to content = refl

pub segment-len : (sp dp : ℕ) (from to content : List ℕ) → length (segment from sp to dp content) ≡ length content + 8
unfolding segment
segment-len sp dp from to content = omega arith

pub udp_fields : HeaderFields
udp_fields = record { protocol = 17; service = 0; id_high = 0; id_low = 0; flags = 64; hops = 250 }

pub udp-carries : (sp dp : ℕ) (from to content : List ℕ) → length from ≡ 4 → length to ≡ 4 →
    Carries udp_fields (udp_datagram from sp to dp content) from to (segment from sp to dp content)
unfolding udp_datagram udp_fields
udp-carries sp dp from to content n m = datagram-carries udp_fields from to (segment from sp to dp content) n m
