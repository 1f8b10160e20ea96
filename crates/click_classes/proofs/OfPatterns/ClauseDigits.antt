-- Lemmas about what the digits of a clause require of a packet.
use Rattle.std.proofs.Common.{◌≡◌, ◌==◌, ◌↔◌, ℕ, zero, suc, ◌+◌, ◌*◌, ◌/◌, ◌%◌, ◌<◌, ◌≤◌, List, [], ◌∷◌, ◌++◌, map, length, drop, Bool, true, false, not, bit_and, Option, Some, None, Ok, decimal, codes, refl, ap, ◌∙◌, inl, inr, arith}
use Rattle.std.specs.Prelude.{unwrap_or}
use Rattle.std.specs.Int.Bits.{and_zero_r}
use Rattle.std.proofs.lemmas.Nat.{and_mask, and_block, and_le_l}
use Rattle.std.proofs.lemmas.Bool.{cases_Bool}
use Rattle.std.proofs.lemmas.Bool.Decides.{nat_tests}
use Rattle.click_classes.specs.declared.values.pattern.Clause.{Clause}
use Rattle.click_classes.specs.Patterns.{clause}
use Rattle.click_classes.specs.Matches.{agrees, holds}
use Rattle.click_classes.specs.ClauseText.{Halves, IsHalf, AreHalves, AreBytes, halves_text, wanted, bits_of, counted, IsAs, BeginsWith}
use Rattle.click_classes.proofs.OfPatterns.ClauseTexts.{clause-full}

bits_small : (o : Option ℕ) → bits_of o < 16
bits_small None = omega arith
bits_small (Some n) = omega arith

wanted_small : (o : Option ℕ) → IsHalf o → unwrap_or o 0 < 16
wanted_small None h = omega arith
wanted_small (Some n) h = h

half_to : (o : Option ℕ) (n : ℕ) → n < 16 → IsHalf o → bit_and n (bits_of o) ≡ bit_and (unwrap_or o 0) (bits_of o) → IsAs o n
half_to None n h q e = tt
half_to (Some m) n h q e =
    let p : bit_and n 15 ≡ n % 16 = and_mask n 4 in
    let r : bit_and m 15 ≡ m % 16 = and_mask m 4 in
    omega (arith, p, r, e, q)

half_from : (o : Option ℕ) (n : ℕ) → IsAs o n → bit_and n (bits_of o) ≡ bit_and (unwrap_or o 0) (bits_of o)
half_from None n e = and_zero_r n
half_from (Some m) n e = ap (λ k. bit_and k 15) e

-- two halves of a byte
in_halves : (b : Halves) (h l : ℕ) → l < 16 → bit_and (16 * h + l) (counted b) ≡ bit_and h (bits_of b.high) * 16 + bit_and l (bits_of b.low)
in_halves b h l q =
    let x : 16 * h + l ≡ h * 16 + l = omega arith in
    let c : counted b ≡ bits_of b.high * 16 + bits_of b.low = omega arith in
    ap (λ y. bit_and y (counted b)) x ∙ ap (bit_and (h * 16 + l)) c ∙ and_block 4 h (bits_of b.high) l (bits_of b.low) q (bits_small b.low)

whole : (b : Halves) (x : ℕ) → bit_and x (counted b) ≡ bit_and (x / 16) (bits_of b.high) * 16 + bit_and (x % 16) (bits_of b.low)
whole b x =
    let e : x ≡ 16 * (x / 16) + x % 16 = omega arith in
    ap (λ y. bit_and y (counted b)) e ∙ in_halves b (x / 16) (x % 16) (omega arith)

module _ (b : Halves) (x : ℕ) (high : IsHalf b.high) (low : IsHalf b.low) (byte : x < 256) where
  byte_to : bit_and x (counted b) ≡ bit_and (wanted b) (counted b) → IsAs b.high (x / 16) × IsAs b.low (x % 16)
  byte_to e =
      let p = whole b x in
      let q = in_halves b (unwrap_or b.high 0) (unwrap_or b.low 0) (wanted_small b.low low) in
      let r = and_le_l (x % 16) (bits_of b.low) in
      let s = and_le_l (unwrap_or b.low 0) (bits_of b.low) in
      let t = wanted_small b.low low in
      let h : bit_and (x / 16) (bits_of b.high) ≡ bit_and (unwrap_or b.high 0) (bits_of b.high) = omega (arith, p, q, r, s, t, e) in
      let l : bit_and (x % 16) (bits_of b.low) ≡ bit_and (unwrap_or b.low 0) (bits_of b.low) = omega (arith, p, q, r, s, t, e) in
      (half_to b.high (x / 16) (omega arith) high h, half_to b.low (x % 16) (omega arith) low l)

  byte_from : IsAs b.high (x / 16) → IsAs b.low (x % 16) → bit_and x (counted b) ≡ bit_and (wanted b) (counted b)
  byte_from i j =
      let p = whole b x in
      let q = in_halves b (unwrap_or b.high 0) (unwrap_or b.low 0) (wanted_small b.low low) in
      let h = half_from b.high (x / 16) i in
      let l = half_from b.low (x % 16) j in
      omega (arith, p, q, h, l)

agrees_to : (bs : List Halves) (bytes : List ℕ) → AreHalves bs → AreBytes bytes → agrees bytes (map wanted bs) (map counted bs) ≡ true → BeginsWith bs bytes
agrees_to [] bytes h q e = tt
agrees_to (b ∷ bs) [] h q e = cc
agrees_to (b ∷ bs) (x ∷ bytes) h q e = elim (cases_Bool (bit_and x (counted b) == bit_and (wanted b) (counted b))) [
  | inl t ↦
      let f = rw t at e in
      let same : bit_and x (counted b) ≡ bit_and (wanted b) (counted b) = grind (arith, nat_tests) in
      let p = byte_to b x h.0 h.1 q.0 same in
      (p.0, p.1, agrees_to bs bytes h.2 q.1 f)
  | inr t ↦ let f = rw t at e in cc
]

agrees_from : (bs : List Halves) (bytes : List ℕ) → AreHalves bs → AreBytes bytes → BeginsWith bs bytes → agrees bytes (map wanted bs) (map counted bs) ≡ true
agrees_from [] [] h q w = refl
agrees_from [] (x ∷ bytes) h q w = refl
agrees_from (b ∷ bs) [] h q w = absurd w
agrees_from (b ∷ bs) (x ∷ bytes) h q w =
    let same = byte_from b x h.0 h.1 q.0 w.0 w.1 in
    let t : (bit_and x (counted b) == bit_and (wanted b) (counted b)) ≡ true = grind (arith, nat_tests) in
    rw t (agrees_from bs bytes h.2 q.1 w.2)

bytes_drop : (n : ℕ) (bytes : List ℕ) → AreBytes bytes → AreBytes (drop n bytes)
bytes_drop zero bytes q = q
bytes_drop (suc n) [] q = tt
bytes_drop (suc n) (x ∷ bytes) q = bytes_drop n bytes q.1

not_false : (b : Bool) → not b ≡ false → b ≡ true
not_false true e = refl
not_false false e = cc

module _ (offset : ℕ) (bs : List Halves) (bytes : List ℕ) (near : offset ≤ 1599) (some : 1 ≤ length bs) (most : length bs ≤ 64) (halves : AreHalves bs) (are : AreBytes bytes) where
  pub holds-digits : (c : Clause) × (clause (decimal offset ++ codes "/" ++ halves_text bs) ≡ Ok c) × ((holds c bytes ≡ true) ↔ BeginsWith bs (drop offset bytes))
  holds-digits = (
    record { negated = false; offset = offset; value = map wanted bs; mask = map counted bs },
    clause-full false offset bs near some most halves,
    (agrees_to bs (drop offset bytes) halves (bytes_drop offset bytes are), agrees_from bs (drop offset bytes) halves (bytes_drop offset bytes are)),
  )

  pub holds-not_digits : (c : Clause) × (clause (codes "!" ++ decimal offset ++ codes "/" ++ halves_text bs) ≡ Ok c) × ((holds c bytes ≡ false) ↔ BeginsWith bs (drop offset bytes))
  holds-not_digits = (
    record { negated = true; offset = offset; value = map wanted bs; mask = map counted bs },
    clause-full true offset bs near some most halves,
    (
      λ e. agrees_to bs (drop offset bytes) halves (bytes_drop offset bytes are) (not_false (agrees (drop offset bytes) (map wanted bs) (map counted bs)) e),
      λ w. ap not (agrees_from bs (drop offset bytes) halves (bytes_drop offset bytes are) w),
    ),
  )
