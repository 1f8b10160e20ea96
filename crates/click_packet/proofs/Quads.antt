-- Lemmas about the bytes of a header as 32-bit words.
use Rattle.std.proofs.Common.{◌≡◌, ℕ, ◌+◌, ◌-◌, ◌*◌, ◌/◌, ◌%◌, ◌<◌, ◌≤◌, ◌↔◌, List, [], ◌∷◌, length, get_or, set, drop, length-set, refl, arith}
use Rattle.std.proofs.lemmas.List.{drop_more}
use Rattle.std.specs.Int.{w16, to_le_bytes}
use Rattle.click_packet.proofs.Sums.{total, sum_of_words-total, ones_sum-positive}
use Rattle.click_packet.specs.Checksum.{sum_of_words, ones_sum}
use Rattle.click_packet.specs.Header.{with_checksum_field, checksum}
use Rattle.click_packet.specs.kept.Quads.{quads}

-- the sum of the first bytes of the 32-bit words
abbrev firsts : List ℕ → ℕ
firsts (a ∷ b ∷ c ∷ d ∷ rest) = a + firsts rest
firsts xs = 0

-- the sum of the last bytes of the 32-bit words
abbrev lasts : List ℕ → ℕ
lasts (a ∷ b ∷ c ∷ d ∷ rest) = d + lasts rest
lasts xs = 0

-- The sum over 32-bit words with the low byte first, compared with 256 times the sum over 16-bit
-- words with the high byte first. The first byte of each 32-bit word has the weight 1 and not
-- 65,536. The last one has 16,777,216 and not 256. The other two bytes agree.
quads-total : (xs : List ℕ) → length xs % 4 ≡ 0 → quads xs + 65535 * firsts xs ≡ 256 * total xs + 16776960 * lasts xs
quads-total [] h = refl
quads-total (a ∷ []) h = absurd (omega arith)
quads-total (a ∷ b ∷ []) h = absurd (omega arith)
quads-total (a ∷ b ∷ c ∷ []) h = absurd (omega arith)
quads-total (a ∷ b ∷ c ∷ d ∷ rest) h = let e = quads-total rest (omega arith) in omega (arith, e)

lasts-total : (xs : List ℕ) → lasts xs ≤ total xs
lasts-total [] = omega arith
lasts-total (a ∷ []) = omega arith
lasts-total (a ∷ b ∷ []) = omega arith
lasts-total (a ∷ b ∷ c ∷ []) = omega arith
lasts-total (a ∷ b ∷ c ∷ d ∷ rest) = let e = lasts-total rest in omega (arith, e)

-- the 32-bit word at index i, and the sum of those after it
pub quads-drop : (xs : List ℕ) (i : ℕ) → 4 * i + 3 < length xs →
    quads (drop (4 * i) xs)
    ≡ get_or xs (4 * i) 0 + get_or xs (4 * i + 1) 0 * 256 + get_or xs (4 * i + 2) 0 * 65536 + get_or xs (4 * i + 3) 0 * 16777216 + quads (drop (4 * (i + 1)) xs)
quads-drop xs i h =
    let a : 4 * i < length xs = omega arith in
    let b : 4 * i + 1 < length xs = omega arith in
    let c : 4 * i + 2 < length xs = omega arith in
    let e = drop_more xs (4 * i) 0 a in
    let f = drop_more xs (4 * i + 1) 0 b in
    let g = drop_more xs (4 * i + 2) 0 c in
    let j = drop_more xs (4 * i + 3) 0 h in
    let m : 4 * i + 1 + 1 ≡ 4 * i + 2 = omega arith in
    let n : 4 * i + 2 + 1 ≡ 4 * i + 3 = omega arith in
    let o : 4 * i + 3 + 1 ≡ 4 * (i + 1) = omega arith in
    rw (e, f, m, g, n, j, o) refl

-- the 32-bit word at an offset
abbrev pub quad_at : List ℕ → ℕ → ℕ
quad_at xs i = get_or xs i 0 + get_or xs (i + 1) 0 * 256 + get_or xs (i + 2) 0 * 65536 + get_or xs (i + 3) 0 * 16777216

-- the words of the first 20 bytes of a header, and those of its options
pub quads-header : (xs : List ℕ) → 20 ≤ length xs →
    quads xs ≡ quad_at xs 0 + quad_at xs 4 + quad_at xs 8 + quad_at xs 12 + quad_at xs 16 + quads (drop 20 xs)
quads-header (a ∷ b ∷ c ∷ d ∷ e ∷ f ∷ g ∷ h ∷ i ∷ j ∷ k ∷ l ∷ m ∷ n ∷ o ∷ p ∷ q ∷ r ∷ s ∷ t ∷ rest) long = omega arith
quads-header xs long = absurd (omega arith)

-- the words of a header with another time to live and with checksum zero
pub quads-bare : (xs : List ℕ) (ttl : ℕ) → 20 ≤ length xs →
    quads (with_checksum_field (set xs 8 ttl) 0)
    ≡ quad_at xs 0 + quad_at xs 4 + (ttl + get_or xs 9 0 * 256) + quad_at xs 12 + quad_at xs 16 + quads (drop 20 xs)
quads-bare (a ∷ b ∷ c ∷ d ∷ e ∷ f ∷ g ∷ h ∷ i ∷ j ∷ k ∷ l ∷ m ∷ n ∷ o ∷ p ∷ q ∷ r ∷ s ∷ t ∷ rest) ttl long = omega arith
quads-bare xs ttl long = absurd (omega arith)

-- if n is congruent to 256 times t modulo 65,535, then 65,535 divides both or neither
divides-turned : (n t f l : ℕ) → n + 65535 * f ≡ 256 * t + 16776960 * l → (n % 65535 ≡ 0) ↔ (t % 65535 ≡ 0)
divides-turned n t f l e = (λ h. omega arith, λ h. omega arith)

-- the ones' complement sum is ffff exactly if 65,535 divides the plain sum, which is not 0
divides : (n : ℕ) → 0 < n → (n % 65535 ≡ 0) ↔ (ones_sum n ≡ 65535)
divides n h =
    let e = ones_sum-positive n h in
    (λ f. omega (arith, e), λ f. omega (arith, e))

-- if the 32-bit words do not sum to 0, the 16-bit words do not
total-positive : (xs : List ℕ) → length xs % 4 ≡ 0 → 0 < quads xs → 0 < sum_of_words xs
total-positive xs whole some =
    omega (arith, quads-total xs whole, lasts-total xs, sum_of_words-total xs)

-- the test on 32-bit words agrees with the test on 16-bit words
pub sums_by_quads : (xs : List ℕ) (n : ℕ) → length xs % 4 ≡ 0 → 0 < n → n ≡ quads xs → (n % 65535 ≡ 0) ↔ (ones_sum (sum_of_words xs) ≡ 65535)
sums_by_quads xs n whole some e =
    let t = sum_of_words xs in
    let turned = divides-turned n t (firsts xs) (lasts xs) (omega (arith, e, quads-total xs whole, sum_of_words-total xs)) in
    let test = divides t (total-positive xs whole (omega (arith, e))) in
    (λ h. test.0 (turned.0 h), λ h. turned.1 (test.1 h))

-- the checksum from 32-bit words is the checksum from 16-bit words with its bytes exchanged
exchanged : (n t f l v w : ℕ) → 0 < n → 0 < t → n + 65535 * f ≡ 256 * t + 16776960 * l → v ≡ 65534 - (n - 1) % 65535 → w ≡ 65534 - (t - 1) % 65535 →
    v ≡ w % 256 * 256 + w / 256
exchanged n t f l v w some positive e g h = omega arith

two_bytes : (v w : ℕ) → w < 65536 → v ≡ w % 256 * 256 + w / 256 → to_le_bytes w16 v ≡ w / 256 ∷ w % 256 ∷ []
two_bytes v w short e =
    let high : v % 256 ≡ w / 256 = omega arith in
    let low : v / 256 % 256 ≡ w % 256 = omega arith in
    rw (high, low) refl

-- the bytes of the checksum, computed from the 32-bit words
pub checksum_by_quads : (xs : List ℕ) (ttl n : ℕ) → length xs % 4 ≡ 0 → 0 < n → n ≡ quads (with_checksum_field (set xs 8 ttl) 0) →
    to_le_bytes w16 (65534 - (n - 1) % 65535) ≡ checksum (set xs 8 ttl) / 256 ∷ checksum (set xs 8 ttl) % 256 ∷ []
unfolding checksum
checksum_by_quads xs ttl n whole some e =
    let bare = with_checksum_field (set xs 8 ttl) 0 in
    let len : length bare ≡ length xs = simp length-set in
    let fit : length bare % 4 ≡ 0 = omega (arith, whole, len) in
    let t = sum_of_words bare in
    let positive = total-positive bare fit (omega (arith, e)) in
    let v = 65534 - (n - 1) % 65535 in
    let w = 65535 - ones_sum t in
    let turned : n + 65535 * firsts bare ≡ 256 * t + 16776960 * lasts bare = omega (arith, e, quads-total bare fit, sum_of_words-total bare) in
    let complement : w ≡ 65534 - (t - 1) % 65535 = omega (arith, ones_sum-positive t positive) in
    two_bytes v w (omega arith) (exchanged n t (firsts bare) (lasts bare) v w some positive turned refl complement)

pub ruleset quad_steps = (quads-drop)
