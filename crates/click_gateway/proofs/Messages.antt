-- The parts and the sum of ICMP messages.
use Rattle.std.proofs.Common.{◌≡◌, ℕ, ◌+◌, ◌-◌, ◌/◌, ◌%◌, List, ◌∷◌, ◌++◌, length, get_or, drop, refl, subst, ap, ◌∙◌, arith}
use Rattle.click_packet.specs.Checksum.{sum_of_words, ones_sum}
use Rattle.click_packet.proofs.Sums.{sum_of_words-total, complement_sums}
use Rattle.click_gateway.specs.Icmp.{message}
use Rattle.click_gateway.proofs.Fronts.{four-bytes}

pub message-sums : (kind code : ℕ) (rest : List ℕ) → ones_sum (sum_of_words (message kind code rest)) ≡ 65535
unfolding message
message-sums kind code rest =
    let n = sum_of_words (kind ∷ code ∷ 0 ∷ 0 ∷ rest) in
    let w = 65535 - ones_sum n in
    let bare = sum_of_words-total (kind ∷ code ∷ 0 ∷ 0 ∷ rest) in
    let whole = sum_of_words-total (kind ∷ code ∷ (w / 256) ∷ (w % 256) ∷ rest) in
    let more : sum_of_words (kind ∷ code ∷ (w / 256) ∷ (w % 256) ∷ rest) ≡ n + w = omega (arith, bare, whole) in
    ap ones_sum more ∙ complement_sums n w refl

pub message-kind : (kind code : ℕ) (rest : List ℕ) → get_or (message kind code rest) 0 0 ≡ kind
unfolding message
message-kind kind code rest = refl

pub message-rest : (kind code : ℕ) (rest : List ℕ) → drop 4 (message kind code rest) ≡ rest
unfolding message
message-rest kind code rest = refl

pub message-len : (kind code : ℕ) (rest : List ℕ) → length (message kind code rest) ≡ 4 + length rest
unfolding message
message-len kind code rest =
    let w = 65535 - ones_sum (sum_of_words (kind ∷ code ∷ 0 ∷ 0 ∷ rest)) in
    let n : length (kind ∷ code ∷ (w / 256) ∷ (w % 256) ∷ rest) ≡ 4 + length rest = omega arith in
    n

-- what follows the four further bytes of a message
pub message-after : (kind code : ℕ) (further rest : List ℕ) → length further ≡ 4 → drop 8 (message kind code (further ++ rest)) ≡ rest
unfolding message
message-after kind code further rest m =
    subst (λ (xs : List ℕ). drop 4 (xs ++ rest) ≡ rest) (four-bytes further m) refl
