-- Lemmas about addresses as numbers.
use Rattle.std.proofs.Common.{◌≡◌, ◌==◌, ℕ, ◌+◌, ◌-◌, ◌*◌, ◌/◌, ◌%◌, ◌^◌, ◌<◌, ◌≤◌, List, [], ◌∷◌, length, true, refl, sym, ap, ◌∙◌, arith, inl, inr}
use Rattle.std.specs.Prelude.{bit_and, slice_index}
use Rattle.std.specs.Str.{bytes_eq}
use Rattle.std.proofs.lemmas.Bool.{cases_Bool, cases_lt}
use Rattle.std.proofs.lemmas.Bool.Decides.{nat_tests}
use Rattle.std.proofs.lemmas.Nat.{shr_split, mod-pow-add}
use Rattle.std.proofs.lemmas.Nat.Bits.{and_high_mask}
use Rattle.std.proofs.lemmas.Slice.Eq.{bytes_eq-Decides}
use Rattle.std.proofs.Math.Pow.{mod-mod-pow}
use Rattle.click_classes.specs.Values.{cleared, first_bits}
use Rattle.click_classes.specs.kept.Rows.{IsAddress, word}

-- the low bits of a number are those of its last byte
low_bits : (n b j : ℕ) → j ≤ 8 → n % 256 ≡ b → n % 2 ^ j ≡ b % 2 ^ j
low_bits n b j h e =
    let whole : 8 - j + j ≡ 8 = omega arith in
    let cut : n % 2 ^ (8 - j + j) % 2 ^ j ≡ n % 2 ^ j = mod-mod-pow n (8 - j) j in
    let byte : n % 2 ^ 8 % 2 ^ j ≡ n % 2 ^ j = rw whole at cut in
    sym byte ∙ ap (λ x. x % 2 ^ j) e

-- a number modulo a power of two: some bits of one of its bytes, and all bytes below
below : (n b m j : ℕ) → j ≤ 8 → n / 2 ^ m % 256 ≡ b → n % 2 ^ (j + m) ≡ b % 2 ^ j * 2 ^ m + n % 2 ^ m
below n b m j h e = mod-pow-add n j m ∙ ap (λ x. x * 2 ^ m + n % 2 ^ m) (low_bits (n / 2 ^ m) b j h e)

first_none : (b : ℕ) → b < 256 → first_bits 0 b ≡ 0
unfolding first_bits
first_none b h = omega arith

first_rest : (k b : ℕ) → first_bits k b + b % 2 ^ (8 - k) ≡ b
unfolding first_bits
first_rest k b = shr_split b (8 - k)

first_whole : (k b : ℕ) → 8 ≤ k → first_bits k b ≡ b
unfolding first_bits
first_whole k b h =
    let e : 8 - k ≡ 0 = omega arith in
    rw e (omega arith)

-- the number of four bytes
abbrev number_of : ℕ → ℕ → ℕ → ℕ → ℕ
number_of a b c d = 16777216 * a + 65536 * b + 256 * c + d

word_four : (a b c d : ℕ) → word (a ∷ b ∷ c ∷ d ∷ []) ≡ number_of a b c d
word_four a b c d = omega arith

-- clearing the bits after the first `len` of an address clears the low 32 - len bits of its number
module _ (len a b c d : ℕ) (a_byte : a < 256) (b_byte : b < 256) (c_byte : c < 256) (d_byte : d < 256) where
  cut_8 : len ≤ 8 → number_of (first_bits len a) (first_bits (len - 8) b) (first_bits (len - 16) c) (first_bits (len - 24) d) + number_of a b c d % 2 ^ (32 - len) ≡ number_of a b c d
  cut_8 h =
      let n = number_of a b c d in
      let k : 32 - len ≡ (8 - len) + 24 = omega arith in
      let eight : len - 8 ≡ 0 = omega arith in
      let sixteen : len - 16 ≡ 0 = omega arith in
      let more : len - 24 ≡ 0 = omega arith in
      let cut = below n a 24 (8 - len) (omega arith) (omega arith) in
      let first = first_rest len a in
      rw (k, eight, sixteen, more, first_none b b_byte, first_none c c_byte, first_none d d_byte) (omega (arith, cut, first))

  cut_16 : 8 ≤ len → len ≤ 16 → number_of (first_bits len a) (first_bits (len - 8) b) (first_bits (len - 16) c) (first_bits (len - 24) d) + number_of a b c d % 2 ^ (32 - len) ≡ number_of a b c d
  cut_16 l h =
      let n = number_of a b c d in
      let k : 32 - len ≡ (8 - (len - 8)) + 16 = omega arith in
      let sixteen : len - 16 ≡ 0 = omega arith in
      let more : len - 24 ≡ 0 = omega arith in
      let cut = below n b 16 (8 - (len - 8)) (omega arith) (omega arith) in
      let whole = first_whole len a l in
      let first = first_rest (len - 8) b in
      rw (k, sixteen, more, first_none c c_byte, first_none d d_byte) (omega (arith, cut, first, whole))

  cut_24 : 16 ≤ len → len ≤ 24 → number_of (first_bits len a) (first_bits (len - 8) b) (first_bits (len - 16) c) (first_bits (len - 24) d) + number_of a b c d % 2 ^ (32 - len) ≡ number_of a b c d
  cut_24 l h =
      let n = number_of a b c d in
      let k : 32 - len ≡ (8 - (len - 16)) + 8 = omega arith in
      let more : len - 24 ≡ 0 = omega arith in
      let cut = below n c 8 (8 - (len - 16)) (omega arith) (omega arith) in
      let whole = first_whole len a (omega arith) in
      let second = first_whole (len - 8) b (omega arith) in
      let first = first_rest (len - 16) c in
      rw (k, more, first_none d d_byte) (omega (arith, cut, first, whole, second))

  cut_32 : 24 ≤ len → len ≤ 32 → number_of (first_bits len a) (first_bits (len - 8) b) (first_bits (len - 16) c) (first_bits (len - 24) d) + number_of a b c d % 2 ^ (32 - len) ≡ number_of a b c d
  cut_32 l h =
      let n = number_of a b c d in
      let k : 32 - len ≡ 8 - (len - 24) = omega arith in
      let cut = low_bits n d (8 - (len - 24)) (omega arith) (omega arith) in
      let whole = first_whole len a (omega arith) in
      let second = first_whole (len - 8) b (omega arith) in
      let third = first_whole (len - 16) c (omega arith) in
      let first = first_rest (len - 24) d in
      rw k (omega (arith, cut, first, whole, second, third))

  cut_any : len ≤ 32 → number_of (first_bits len a) (first_bits (len - 8) b) (first_bits (len - 16) c) (first_bits (len - 24) d) + number_of a b c d % 2 ^ (32 - len) ≡ number_of a b c d
  cut_any h = elim (cases_lt len 8) [
    | inl l ↦ cut_8 (omega arith)
    | inr l ↦ elim (cases_lt len 16) [
      | inl m ↦ cut_16 l (omega arith)
      | inr m ↦ elim (cases_lt len 24) [
        | inl n ↦ cut_24 m (omega arith)
        | inr n ↦ cut_32 n h
      ]
    ]
  ]

  cleared_masked : len ≤ 32 → word (cleared len (a ∷ b ∷ c ∷ d ∷ [])) ≡ bit_and (word (a ∷ b ∷ c ∷ d ∷ [])) (2 ^ 32 - 2 ^ (32 - len))
  unfolding cleared
  cleared_masked h =
      let n = number_of a b c d in
      let masked = and_high_mask 32 (32 - len) (omega arith) n (omega arith) in
      let cut = cut_any h in
      let split = shr_split n (32 - len) in
      rw (word_four a b c d) (word_four (first_bits len a) (first_bits (len - 8) b) (first_bits (len - 16) c) (first_bits (len - 24) d) ∙ omega (arith, masked, cut, split))

same_words : (a b c d e f g h : ℕ) → a < 256 → b < 256 → c < 256 → d < 256 → e < 256 → f < 256 → g < 256 → h < 256
    → word (a ∷ b ∷ c ∷ d ∷ []) ≡ word (e ∷ f ∷ g ∷ h ∷ []) → ◌≡◌ {A = List ℕ} (a ∷ b ∷ c ∷ d ∷ []) (e ∷ f ∷ g ∷ h ∷ [])
same_words a b c d e f g h i j k l m n o p s =
    let t : number_of a b c d ≡ number_of e f g h = sym (word_four a b c d) ∙ s ∙ word_four e f g h in
    let u : a ≡ e = omega (arith, t) in
    let v : b ≡ f = omega (arith, t) in
    let w : c ≡ g = omega (arith, t) in
    let x : d ≡ h = omega (arith, t) in
    cc

-- a list of four items
four_of : (a : List ℕ) → length a ≡ 4 → a ≡ slice_index a 0 ∷ slice_index a 1 ∷ slice_index a 2 ∷ slice_index a 3 ∷ []
four_of [] e = absurd (omega arith)
four_of (a ∷ []) e = absurd (omega arith)
four_of (a ∷ b ∷ []) e = absurd (omega arith)
four_of (a ∷ b ∷ c ∷ []) e = absurd (omega arith)
four_of (a ∷ b ∷ c ∷ d ∷ []) e = refl
four_of (a ∷ b ∷ c ∷ d ∷ x ∷ xs) e = absurd (omega arith)

first_small : (k b : ℕ) → b < 256 → first_bits k b < 256
first_small k b h = let e = first_rest k b in omega arith

module _ (len : ℕ) (a n : List ℕ) (within : len ≤ 32) (i : IsAddress a) (j : IsAddress n) where
  masked : word (cleared len a) ≡ bit_and (word a) (2 ^ 32 - 2 ^ (32 - len))
  unfolding cleared
  masked = cleared_masked len (slice_index a 0) (slice_index a 1) (slice_index a 2) (slice_index a 3) (i.bytes 0) (i.bytes 1) (i.bytes 2) (i.bytes 3) within

  injective : word (cleared len a) ≡ word n → cleared len a ≡ n
  unfolding cleared
  injective e =
      same_words _ _ _ _ (slice_index n 0) (slice_index n 1) (slice_index n 2) (slice_index n 3)
      (first_small len (slice_index a 0) (i.bytes 0)) (first_small (len - 8) (slice_index a 1) (i.bytes 1)) (first_small (len - 16) (slice_index a 2) (i.bytes 2)) (first_small (len - 24) (slice_index a 3) (i.bytes 3))
      (j.bytes 0) (j.bytes 1) (j.bytes 2) (j.bytes 3) e
      ∙ sym (four_of n j.four)

  -- a prefix covers an address exactly if the masked number of the address is that of the network
  pub masked_covers : (bit_and (word a) (2 ^ 32 - 2 ^ (32 - len)) == word n) ≡ bytes_eq (cleared len a) n
  masked_covers = elim (cases_Bool (bytes_eq (cleared len a) n)) [
    | inl t ↦
        let same : cleared len a ≡ n = (bytes_eq-Decides (cleared len a) n).0 t in
        let e : bit_and (word a) (2 ^ 32 - 2 ^ (32 - len)) ≡ word n = sym masked ∙ ap word same in
        let u : (bit_and (word a) (2 ^ 32 - 2 ^ (32 - len)) == word n) ≡ true = grind (arith, nat_tests) in
        u ∙ sym t
    | inr t ↦ elim (cases_Bool (bit_and (word a) (2 ^ 32 - 2 ^ (32 - len)) == word n)) [
      | inl u ↦
          let e : bit_and (word a) (2 ^ 32 - 2 ^ (32 - len)) ≡ word n = grind (arith, nat_tests) in
          let same : cleared len a ≡ n = injective (masked ∙ e) in
          let v : bytes_eq (cleared len a) n ≡ true = (bytes_eq-Decides (cleared len a) n).1 same in
          cc
      | inr u ↦ u ∙ sym t
    ]
  ]
