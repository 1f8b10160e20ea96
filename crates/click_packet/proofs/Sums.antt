-- Lemmas about ones' complement sums.
use Rattle.std.proofs.Common.{◌≡◌, ℕ, zero, suc, ◌+◌, ◌-◌, ◌*◌, ◌/◌, ◌%◌, ◌<◌, ◌≤◌, List, [], ◌∷◌, get_or, fold, ◌⊎◌, inl, inr, ⊎_elim, refl, sym, ◌∙◌, ap, add-zero, zero-add, arith}
use Rattle.std.proofs.lemmas.Bool.Decides.{nat_tests}
use Rattle.std.proofs.lemmas.Bool.{cases_lt, cases_eq}
use Rattle.std.proofs.lemmas.List.Sums.{sum_by-cons}
use Rattle.click_packet.specs.Checksum.{words, sum_of_words, ones_sum, ones_add, IsOnesSum}

pub ones_sum-zero : ones_sum 0 ≡ 0
unfolding ones_sum
ones_sum-zero = refl

pub ones_sum-positive : (n : ℕ) → 0 < n → ones_sum n ≡ (n - 1) % 65535 + 1
unfolding ones_sum
ones_sum-positive zero h = absurd (omega arith)
ones_sum-positive (suc n) h =
    let e : suc n - 1 ≡ n = omega arith in
    rw e refl

-- the ones' complement sum is the word from 1 to 65,535 that is congruent to the number
pub ones_sum_at : (n s k : ℕ) → 0 < s → s ≤ 65535 → n ≡ 65535 * k + s → ones_sum n ≡ s
ones_sum_at n s k low high e =
    let positive : 0 < n = omega arith in
    let same : (n - 1) % 65535 + 1 ≡ s = omega arith in
    ones_sum-positive n positive ∙ same

-- the sum of the words, from the first word on
abbrev pub total : List ℕ → ℕ
total [] = 0
total (high ∷ []) = high * 256
total (high ∷ low ∷ rest) = high * 256 + low + total rest

pub sum_of_words-total : (xs : List ℕ) → sum_of_words xs ≡ total xs
sum_of_words-total [] = refl
sum_of_words-total (high ∷ []) = omega arith
sum_of_words-total (high ∷ low ∷ rest) =
    sum_by-cons (λ x. x) (high * 256 + low) (words rest) ∙ ap (λ n. high * 256 + low + n) (sum_of_words-total rest)

-- the ones' complement sum of a positive number: congruent to it, and from 1 to 65,535
pub ones_sum-is : (n : ℕ) → 0 < n → (n ≡ 65535 * ((n - 1) / 65535) + ones_sum n) × (0 < ones_sum n) × (ones_sum n ≤ 65535)
ones_sum-is n h =
    let e = ones_sum-positive n h in
    (omega (arith, e), omega (arith, e), omega (arith, e))

pub ones_sum-word : (n : ℕ) → n ≤ 65535 → ones_sum n ≡ n
ones_sum-word zero h = ones_sum-zero
ones_sum-word (suc n) h = ones_sum_at (suc n) (suc n) 0 (omega arith) h (omega arith)

ones_add-below : (a b : ℕ) → a + b < 65536 → ones_add a b ≡ a + b
ones_add-below a b h = grind (arith, nat_tests)

ones_add-carry : (a b : ℕ) → 65536 ≤ a + b → ones_add a b ≡ a + b - 65535
ones_add-carry a b h = grind (arith, nat_tests)

ones_sum-add_positive : (n w : ℕ) → 0 < n → w ≤ 65535 → (ones_sum n + w < 65536) ⊎ (65536 ≤ ones_sum n + w) →
    ones_sum (n + w) ≡ ones_add (ones_sum n) w
ones_sum-add_positive n w h short (inl below) =
    let i = ones_sum-is n h in
    ones_sum_at (n + w) (ones_sum n + w) ((n - 1) / 65535) (omega (arith, i.1)) (omega arith) (omega (arith, i.0))
    ∙ sym (ones_add-below (ones_sum n) w below)
ones_sum-add_positive n w h short (inr past) =
    let i = ones_sum-is n h in
    ones_sum_at (n + w) (ones_sum n + w - 65535) ((n - 1) / 65535 + 1) (omega arith) (omega (arith, i.2)) (omega (arith, i.0))
    ∙ sym (ones_add-carry (ones_sum n) w past)

-- adding a word to the plain sum adds it to the ones' complement sum
pub ones_sum-add : (n w : ℕ) → w ≤ 65535 → ones_sum (n + w) ≡ ones_add (ones_sum n) w
ones_sum-add zero w short =
    let e : zero + w ≡ w = omega arith in
    rw (e, ones_sum-zero) (ones_sum-word w short ∙ sym (ones_add-below 0 w (omega arith) ∙ e))
ones_sum-add (suc n) w short = ones_sum-add_positive (suc n) w (omega arith) short (cases_lt (ones_sum (suc n) + w) 65536)

fold_words : (n : ℕ) (xs : List ℕ) → ((i : ℕ) → get_or xs i 0 < 256) →
    ones_sum (n + sum_of_words xs) ≡ fold ones_add (ones_sum n) (words xs)
fold_words n [] bytes = ap ones_sum (add-zero n)
fold_words n (high ∷ []) bytes =
    let h : high < 256 = bytes 0 in
    let e : n + sum_of_words (high ∷ []) ≡ n + high * 256 = omega arith in
    ap ones_sum e ∙ ones_sum-add n (high * 256) (omega arith)
fold_words n (high ∷ low ∷ rest) bytes =
    let h : high < 256 = bytes 0 in
    let l : low < 256 = bytes 1 in
    let w = high * 256 + low in
    let e : n + sum_of_words (high ∷ low ∷ rest) ≡ n + w + sum_of_words rest =
    omega (arith, sum_by-cons (λ x. x) w (words rest)) in
    ap ones_sum e ∙ fold_words (n + w) rest (λ i. bytes (suc (suc i)))
    ∙ ap (λ m. fold ones_add m (words rest)) (ones_sum-add n w (omega arith))

-- the ones' complement sum is the words added one after another
pub ones_sum-fold : (xs : List ℕ) → ((i : ℕ) → get_or xs i 0 < 256) → ones_sum (sum_of_words xs) ≡ fold ones_add 0 (words xs)
ones_sum-fold xs bytes =
    sym (ap ones_sum (zero-add (sum_of_words xs))) ∙ fold_words 0 xs bytes ∙ ap (λ m. fold ones_add m (words xs)) ones_sum-zero

pub ones_sum-IsOnesSum : (n : ℕ) → IsOnesSum n (ones_sum n)
ones_sum-IsOnesSum zero = record { congruent = ap (λ m. m % 65535) ones_sum-zero; word = omega (arith, ones_sum-zero); zero_only = (λ e. refl, λ e. ones_sum-zero) }
ones_sum-IsOnesSum (suc n) =
    let i = ones_sum-is (suc n) (omega arith) in
    record { congruent = omega (arith, i.0); word = i.2; zero_only = (λ e. absurd (omega (arith, i.1)), λ e. absurd (omega arith)) }

-- no other word satisfies the definition
pub IsOnesSum-once : (n s : ℕ) → IsOnesSum n s → s ≡ ones_sum n
IsOnesSum-once zero s h = h.zero_only.1 refl ∙ sym ones_sum-zero
IsOnesSum-once (suc n) s h =
    let i = ones_sum-is (suc n) (omega arith) in
    let positive : 0 < s = elim s as (λ m. (m ≡ 0 → suc n ≡ 0) → 0 < m) [ zero ↦ λ e. absurd (omega (arith, e refl)) | suc m ↦ λ e. omega arith ] h.zero_only.0 in
    omega (arith, i.0, i.1, i.2, h.congruent, h.word)

-- with a word added, the sum is ffff if the word is its complement, or if both are ffff
pub complement_sums : (n w : ℕ) → w ≡ 65535 - ones_sum n → ones_sum (n + w) ≡ 65535
complement_sums zero w e = ones_sum_at (zero + w) 65535 0 (omega arith) (omega arith) (omega (arith, e, ones_sum-zero))
complement_sums (suc n) w e =
    let i = ones_sum-is (suc n) (omega arith) in
    ones_sum_at (suc n + w) 65535 (n / 65535) (omega arith) (omega arith) (omega (arith, i.0, i.2, e))

pub ones_sums : (n w : ℕ) → 65535 - ones_sum n ≡ 0 → w ≡ 65535 → ones_sum (n + w) ≡ 65535
ones_sums zero w e f = absurd (omega (arith, e, ones_sum-zero))
ones_sums (suc n) w e f =
    let i = ones_sum-is (suc n) (omega arith) in
    ones_sum_at (suc n + w) 65535 (n / 65535 + 1) (omega arith) (omega arith) (omega (arith, i.0, i.2, e, f))

pub complement_from_sum : (n w : ℕ) → w ≤ 65535 → ones_sum (n + w) ≡ 65535 → (w ≡ 65535 - ones_sum n) ⊎ ((65535 - ones_sum n ≡ 0) × (w ≡ 65535))
complement_from_sum zero w short e =
    let f : zero + w ≡ w = omega arith in
    let g : w ≡ 65535 = sym (ones_sum-word w short) ∙ ap ones_sum (sym f) ∙ e in
    inl (omega (arith, g, ones_sum-zero))
complement_from_sum (suc n) w short e =
    let i = ones_sum-is (suc n) (omega arith) in
    let j = ones_sum-is (suc n + w) (omega arith) in
    ⊎_elim (λ h. inr (omega (arith, i.0, i.1, i.2, j.0, e, h), h)) (λ h. inl (omega (arith, i.0, i.1, i.2, j.0, e, h))) (cases_eq w 65535)
