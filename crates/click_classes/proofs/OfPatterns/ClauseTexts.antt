-- Clauses read back from their text.
use Rattle.std.proofs.Common.{◌≡◌, ◌==◌, ℕ, zero, suc, ◌+◌, ◌*◌, ◌/◌, ◌%◌, ◌<◌, ◌≤◌, List, [], ◌∷◌, ◌++◌, map, length, take, drop, replicate, Bool, true, false, Option, Some, None, Ok, decimal, refl, ap, ◌∙◌, inl, inr, arith, codes, append_assoc}
use Rattle.std.specs.Prelude.{nat_le, nat_lt, position, slice_index, unwrap_or}
use Rattle.std.specs.List.{list_all}
use Rattle.std.proofs.Math.Seq.{take-append_seam, drop-append-add}
use Rattle.std.proofs.lemmas.List.{length-replicate}
use Rattle.std.proofs.lemmas.Fmt.{decimal_nonempty}
use Rattle.std.proofs.lemmas.Bool.{cases_Bool, cases_lt}
use Rattle.std.proofs.lemmas.Bool.Decides.{nat_tests}
use Rattle.click_base.specs.Numbers.{digit, hex_digit, digit_value, decimal_in}
use Rattle.click_classes.specs.Patterns.{pattern_digit, counted_bits, value_of, mask_of, are_digits, clause_of, unsigned, clause}
use Rattle.click_classes.specs.ClauseText.{Halves, IsHalf, AreHalves, AreBytes, hex_digit_of, half_digit, halves_text, hex_text, wanted, bits_of, counted, bits_under, counted_under, sign}
use Rattle.click_base.proofs.Decimals.{digits-decimal, decimal_in-read}
use Rattle.click_classes.proofs.OfArguments.Separators.{position-behind, position-none}
use Rattle.click_classes.proofs.OfPatterns.Clauses.{unsigned_masked, unsigned_full}

-- ---- one digit

few : (n : ℕ) → n < 10 → hex_digit_of n ≡ 48 + n
few n h = let t : nat_lt n 10 ≡ true = grind (arith, nat_tests) in rw t refl

many : (n : ℕ) → 10 ≤ n → hex_digit_of n ≡ 87 + n
many n h = let t : nat_lt n 10 ≡ false = grind (arith, nat_tests) in rw t refl

-- b is the digit of n, and no other byte of a clause
pub record IsDigit (b n : ℕ) : Type 0 where
  pub hex : hex_digit b ≡ true
  pub hex_digit_value : digit_value b ≡ n
  pub known : (b == 63) ≡ false

decimal_digit : (n : ℕ) → n < 10 → IsDigit (48 + n) n
decimal_digit n h =
    let d : digit (48 + n) ≡ true = grind (arith, nat_tests) in
    record { hex = rw d refl; hex_digit_value = rw d (omega arith); known = grind (arith, nat_tests) }

letter_digit : (n : ℕ) → 10 ≤ n → n < 16 → IsDigit (87 + n) n
letter_digit n h q =
    let d : digit (87 + n) ≡ false = grind (arith, nat_tests) in
    let u : nat_le (87 + n) 70 ≡ false = grind (arith, nat_tests) in
    let l : nat_le 97 (87 + n) ≡ true = grind (arith, nat_tests) in
    let r : nat_le (87 + n) 102 ≡ true = grind (arith, nat_tests) in
    let c : nat_le 65 (87 + n) ≡ true = grind (arith, nat_tests) in
    record { hex = rw (d, c, u, l, r) refl; hex_digit_value = rw (d, c, u, l, r) (omega arith); known = grind (arith, nat_tests) }

pub is_digit : (n : ℕ) → n < 16 → IsDigit (hex_digit_of n) n
is_digit n h = elim (cases_lt n 10) [
  | inl l ↦ let e = few n l in rw e (decimal_digit n l)
  | inr l ↦ let e = many n l in rw e (letter_digit n l h)
]

half_passes : (o : Option ℕ) → IsHalf o → pattern_digit (half_digit o) ≡ true
half_passes None h = refl
half_passes (Some n) h = let d = is_digit n h in let e = d.hex in rw e refl

half_value : (o : Option ℕ) → IsHalf o → digit_value (half_digit o) ≡ unwrap_or o 0
half_value None h = refl
half_value (Some n) h = (is_digit n h).hex_digit_value

half_bits : (o : Option ℕ) → IsHalf o → counted_bits (half_digit o) 102 ≡ bits_of o
half_bits None h = refl
half_bits (Some n) h = let e = (is_digit n h).known in rw e refl

-- ---- all digits

halves_pass : (bs : List Halves) → AreHalves bs → list_all pattern_digit (halves_text bs) ≡ true
halves_pass [] h = refl
halves_pass (b ∷ bs) h =
    let p = half_passes b.high h.0 in
    let q = half_passes b.low h.1 in
    let r = halves_pass bs h.2 in
    rw (p, q, r) refl

halves_length : (bs : List Halves) → length (halves_text bs) ≡ 2 * length bs
halves_length [] = refl
halves_length (b ∷ bs) = let r = halves_length bs in omega (arith, r)

halves_value : (bs : List Halves) → AreHalves bs → value_of (halves_text bs) ≡ map wanted bs
halves_value [] h = refl
halves_value (b ∷ bs) h =
    let p = half_value b.high h.0 in
    let q = half_value b.low h.1 in
    let r = halves_value bs h.2 in
    rw (p, q, r) refl

halves_mask : (bs : List Halves) → AreHalves bs → mask_of (halves_text bs) (replicate (length (halves_text bs)) 102) ≡ map counted bs
halves_mask [] h = refl
halves_mask (b ∷ bs) h =
    let p = half_bits b.high h.0 in
    let q = half_bits b.low h.1 in
    let r = halves_mask bs h.2 in
    rw (p, q, r) refl

full_hex : (n : ℕ) → list_all hex_digit (replicate n 102) ≡ true
full_hex zero = refl
full_hex (suc n) = full_hex n

bytes_hex : (ms : List ℕ) → AreBytes ms → list_all hex_digit (hex_text ms) ≡ true
bytes_hex [] h = refl
bytes_hex (m ∷ ms) h =
    let p = (is_digit (m / 16) (omega (arith, h.0))).hex in
    let q = (is_digit (m % 16) (omega arith)).hex in
    let r = bytes_hex ms h.1 in
    rw (p, q, r) refl

bytes_length : (ms : List ℕ) → length (hex_text ms) ≡ 2 * length ms
bytes_length [] = refl
bytes_length (m ∷ ms) = let r = bytes_length ms in omega (arith, r)

half_under : (o : Option ℕ) (n : ℕ) → IsHalf o → n < 16 → counted_bits (half_digit o) (hex_digit_of n) ≡ bits_under o n
half_under None n h q = refl
half_under (Some k) n h q =
    let e = (is_digit k h).known in
    let v = (is_digit n q).hex_digit_value in
    rw (e, v) refl

halves_under : (bs : List Halves) (ms : List ℕ) → AreHalves bs → AreBytes ms → mask_of (halves_text bs) (hex_text ms) ≡ counted_under bs ms
halves_under [] ms h q = refl
halves_under (b ∷ bs) [] h q = refl
halves_under (b ∷ bs) (m ∷ ms) h q =
    let p = half_under b.high (m / 16) h.0 (omega (arith, q.0)) in
    let r = half_under b.low (m % 16) h.1 (omega arith) in
    let s = halves_under bs ms h.2 q.1 in
    rw (p, r, s) refl

-- ---- a clause of digits and a mask

module _ (bs : List Halves) (some : 1 ≤ length bs) (most : length bs ≤ 64) (halves : AreHalves bs) where
  digits_are : are_digits (halves_text bs) ≡ true
  digits_are =
      let len = halves_length bs in
      let even : (length (halves_text bs) % 2 == 0) ≡ true = grind (arith, nat_tests) in
      let low : nat_le 2 (length (halves_text bs)) ≡ true = grind (arith, nat_tests) in
      let high : nat_le (length (halves_text bs)) 128 ≡ true = grind (arith, nat_tests) in
      let all = halves_pass bs halves in
      rw (even, low, high, all) refl

  clause_of-full : (negated : Bool) (offset : ℕ)
      → clause_of negated offset (halves_text bs) (replicate (length (halves_text bs)) 102) ≡ Ok (record { negated = negated; offset = offset; value = map wanted bs; mask = map counted bs })
  unfolding clause_of
  clause_of-full negated offset =
      let same : (length (replicate {A = ℕ} (length (halves_text bs)) 102) == length (halves_text bs)) ≡ true = grind (arith, nat_tests, length-replicate) in
      let all = full_hex (length (halves_text bs)) in
      let v = halves_value bs halves in
      let m = halves_mask bs halves in
      rw (digits_are, same, all, v, m) refl

  clause_of-masked : (negated : Bool) (offset : ℕ) (ms : List ℕ) → AreBytes ms → length ms ≡ length bs
      → clause_of negated offset (halves_text bs) (hex_text ms) ≡ Ok (record { negated = negated; offset = offset; value = map wanted bs; mask = counted_under bs ms })
  unfolding clause_of
  clause_of-masked negated offset ms bytes as_many =
      let len = halves_length bs in
      let wide = bytes_length ms in
      let same : (length (hex_text ms) == length (halves_text bs)) ≡ true = grind (arith, nat_tests) in
      let all = bytes_hex ms bytes in
      let v = halves_value bs halves in
      let m = halves_under bs ms halves bytes in
      rw (digits_are, same, all, v, m) refl

-- ---- the text of a clause

no_sign : (xs ys : List ℕ) → 0 < length xs → list_all digit xs ≡ true → (slice_index (xs ++ ys) 0 == 33) ≡ false
no_sign [] ys h q = absurd (omega arith)
no_sign (x ∷ xs) ys h q = elim (cases_Bool (x == 33)) [
  | inl t ↦ let same : x ≡ 33 = grind (arith, nat_tests) in let e : list_all digit (33 ∷ xs) ≡ true = rw same at q in cc
  | inr f ↦ f
]

signed : (negated : Bool) (word : List ℕ) → (slice_index word 0 == 33) ≡ false → clause (sign negated ++ word) ≡ unsigned negated word
unfolding clause
signed true word h = refl
signed false word h = rw h refl

behind : (xs ys : List ℕ) (b : ℕ) → drop (length xs + 1) (xs ++ b ∷ ys) ≡ ys
behind xs ys b = drop-append-add xs (b ∷ ys) 1

module _ (negated : Bool) (offset : ℕ) (near : offset ≤ 1599) (rest : List ℕ) where
  slash : position (λ b. b == 47) (decimal offset ++ 47 ∷ rest) ≡ Some (length (decimal offset))
  slash = position-behind digit 47 refl (decimal offset) rest (digits-decimal offset (omega arith))

  number : decimal_in 1599 (take (length (decimal offset)) (decimal offset ++ 47 ∷ rest)) ≡ Some offset
  number = ap (decimal_in 1599) (take-append_seam (decimal offset) (47 ∷ rest)) ∙ decimal_in-read 1599 offset (omega arith) near

  plain_word : clause (sign negated ++ (decimal offset ++ 47 ∷ rest)) ≡ unsigned negated (decimal offset ++ 47 ∷ rest)
  plain_word = signed negated (decimal offset ++ 47 ∷ rest) (no_sign (decimal offset) (47 ∷ rest) (decimal_nonempty offset (omega arith)) (digits-decimal offset (omega arith)))

  after : drop (length (decimal offset) + 1) (decimal offset ++ 47 ∷ rest) ≡ rest
  after = behind (decimal offset) rest 47

  read_full : position (λ b. b == 37) rest ≡ None → clause (sign negated ++ (decimal offset ++ 47 ∷ rest)) ≡ clause_of negated offset rest (replicate (length rest) 102)
  read_full none =
      let percent : position (λ b. b == 37) (drop (length (decimal offset) + 1) (decimal offset ++ 47 ∷ rest)) ≡ None = ap (position (λ b. b == 37)) after ∙ none in
      plain_word ∙ unsigned_full negated (decimal offset ++ 47 ∷ rest) (length (decimal offset)) offset slash number percent
      ∙ ap (λ l. clause_of negated offset l (replicate (length l) 102)) after

  read_masked : (end : ℕ) → position (λ b. b == 37) rest ≡ Some end → clause (sign negated ++ (decimal offset ++ 47 ∷ rest)) ≡ clause_of negated offset (take end rest) (drop (end + 1) rest)
  read_masked end is =
      let percent : position (λ b. b == 37) (drop (length (decimal offset) + 1) (decimal offset ++ 47 ∷ rest)) ≡ Some end = ap (position (λ b. b == 37)) after ∙ is in
      plain_word ∙ unsigned_masked negated (decimal offset ++ 47 ∷ rest) (length (decimal offset)) offset slash number end percent
      ∙ ap (λ l. clause_of negated offset (take end l) (drop (end + 1) l)) after

pub clause-full : (negated : Bool) (offset : ℕ) (bs : List Halves) → offset ≤ 1599 → 1 ≤ length bs → length bs ≤ 64 → AreHalves bs
    → clause (sign negated ++ decimal offset ++ codes "/" ++ halves_text bs) ≡ Ok (record { negated = negated; offset = offset; value = map wanted bs; mask = map counted bs })
clause-full negated offset bs near some most halves =
    let e = read_full negated offset near (halves_text bs) (position-none pattern_digit 37 refl (halves_text bs) (halves_pass bs halves))
    ∙ clause_of-full bs some most halves negated offset in
    simp append_assoc e

pub clause-masked : (negated : Bool) (offset : ℕ) (bs : List Halves) (ms : List ℕ) → offset ≤ 1599 → 1 ≤ length bs → length bs ≤ 64 → AreHalves bs → AreBytes ms → length ms ≡ length bs
    → clause (sign negated ++ decimal offset ++ codes "/" ++ halves_text bs ++ codes "%" ++ hex_text ms) ≡ Ok (record { negated = negated; offset = offset; value = map wanted bs; mask = counted_under bs ms })
clause-masked negated offset bs ms near some most halves bytes as_many =
    let rest = halves_text bs ++ 37 ∷ hex_text ms in
    let at = position-behind pattern_digit 37 refl (halves_text bs) (hex_text ms) (halves_pass bs halves) in
    let e = read_masked negated offset near rest (length (halves_text bs)) at
    ∙ ap (λ l. clause_of negated offset l (drop (length (halves_text bs) + 1) rest)) (take-append_seam (halves_text bs) (37 ∷ hex_text ms))
    ∙ ap (λ l. clause_of negated offset (halves_text bs) l) (behind (halves_text bs) (hex_text ms) 37)
    ∙ clause_of-masked bs some most halves negated offset ms bytes as_many in
    simp append_assoc e
