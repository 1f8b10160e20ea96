-- A step agrees with the bytes of the clause that it is made from.
use Rattle.std.proofs.Common.{◌≡◌, ◌⊎◌, ℕ, ◌+◌, ◌-◌, ◌<◌, ◌≤◌, List, length, drop, min, Bool, true, false, ◌&&◌, bit_and, refl, sym, ap, ◌∙◌, arith, inl, inr, length-drop, get_or-drop}
use Rattle.std.specs.Prelude.{nat_le, slice_index}
use Rattle.std.specs.Int.Bits.{and_zero_r}
use Rattle.std.proofs.Math.ListN.{get_or-eq_default}
use Rattle.std.proofs.lemmas.Bool.{cases_Bool, cases_lt}
use Rattle.std.proofs.lemmas.Bool.Decides.{nat_tests}
use Rattle.click_classes.specs.declared.patterns.Step.{Step}
use Rattle.click_classes.specs.Matches.{agrees}
use Rattle.click_classes.specs.kept.Masks.{IsBytes, word, at_place, behind, fits, step_holds, IsStep}
use Rattle.click_classes.proofs.OfPatterns.MaskedBytes.{agrees-each, each-agrees}
use Rattle.click_classes.proofs.OfNumbers.ByteWords.{Small, word-same, words-agree, bytes-agree}

behind-small : (lead : ℕ) (bytes : List ℕ) → IsBytes bytes → Small (behind lead bytes)
behind-small lead bytes h i = elim (cases_Bool (nat_le lead i)) [
  | inl t ↦ rw t (h (i - lead))
  | inr t ↦ rw t (omega arith)
]

-- the step is made from these bytes: its eight bytes end with those of the clause, or begin at the
-- start of the packet
pub record IsMadeOf (offset : ℕ) (value mask : List ℕ) (s : Step) : Type 0 where
  pub same : length value ≡ length mask
  pub few : length value ≤ 8
  pub at_least : s.at ≤ offset
  pub at_most : 0 < length value → offset + length value ≤ s.at + 8
  pub end_none : length value ≡ 0 → s.end ≡ 0
  pub end_some : 0 < length value → s.end ≡ offset + length value
  pub mask_is : s.mask ≡ word (behind (offset - s.at) mask) 8
  pub value_is : s.value ≡ bit_and (word (behind (offset - s.at) value) 8) s.mask

same_bools : (a b : Bool) → (a ≡ true → b ≡ true) → (b ≡ true → a ≡ true) → a ≡ b
same_bools true b f g = sym (f refl)
same_bools false true f g = g refl
same_bools false false f g = refl

-- a step that fits holds of a packet that has enough bytes
holds_when : (s : Step) (bytes : List ℕ) → fits s bytes ≡ true → s.end ≤ length bytes → step_holds s bytes ≡ true
holds_when s bytes f l =
    let e : nat_le s.end (length bytes) ≡ true = grind (arith, nat_tests) in
    elim (cases_Bool (nat_le (s.at + 8) (length bytes))) [
      | inl t ↦ rw (t, f) refl
      | inr t ↦ rw (t, f, e) refl
    ]

and_left : (a b : Bool) → (a && b) ≡ true → a ≡ true
and_left true b h = refl
and_left false b h = cc

and_right : (a b : Bool) → (a && b) ≡ true → b ≡ true
and_right true b h = h
and_right false b h = cc

when_holds : (s : Step) (bytes : List ℕ) → step_holds s bytes ≡ true → (fits s bytes ≡ true) × ((s.at + 8 ≤ length bytes) ⊎ (s.end ≤ length bytes))
when_holds s bytes h = elim (cases_Bool (nat_le (s.at + 8) (length bytes))) [
  | inl t ↦ let f = rw t at h in (f, inl (grind (arith, nat_tests)))
  | inr t ↦
      let f = rw t at h in
      let e = and_left (nat_le s.end (length bytes)) (fits s bytes) f in
      (and_right (nat_le s.end (length bytes)) (fits s bytes) f, inr (grind (arith, nat_tests)))
]

behind_at : (lead : ℕ) (bytes : List ℕ) (j : ℕ) → behind lead bytes (lead + j) ≡ slice_index bytes j
behind_at lead bytes j =
    let t : nat_le lead (lead + j) ≡ true = grind (arith, nat_tests) in
    rw t (ap (λ i. slice_index bytes i) (omega arith))

behind_before : (lead : ℕ) (bytes : List ℕ) (i : ℕ) → i < lead → behind lead bytes i ≡ 0
behind_before lead bytes i l =
    let t : nat_le lead i ≡ false = grind (arith, nat_tests) in
    rw t refl

nothing : (bytes : List ℕ) (i : ℕ) → length bytes ≤ i → slice_index bytes i ≡ 0
nothing bytes i l = get_or-eq_default bytes 0 l

behind_after : (lead : ℕ) (bytes : List ℕ) (i : ℕ) → lead + length bytes ≤ i → behind lead bytes i ≡ 0
behind_after lead bytes i l =
    let t : nat_le lead i ≡ true = grind (arith, nat_tests) in
    rw t (nothing bytes (i - lead) (omega arith))

module _ (offset : ℕ) (value mask : List ℕ) (s : Step) (made : IsMadeOf offset value mask s) (value_bytes : IsBytes value) (mask_bytes : IsBytes mask) (bytes : List ℕ) (are_bytes : IsBytes bytes) where
  abbrev lead : ℕ
  lead = offset - s.at

  AgreesAt : ℕ → Type 0
  AgreesAt j = bit_and (slice_index bytes (offset + j)) (slice_index mask j) ≡ bit_and (slice_index value j) (slice_index mask j)

  equal_words : fits s bytes ≡ true → bit_and (word (at_place s.at bytes) 8) (word (behind lead mask) 8) ≡ bit_and (word (behind lead value) 8) (word (behind lead mask) 8)
  equal_words f =
      let e : bit_and (word (at_place s.at bytes) 8) s.mask ≡ s.value = grind (arith, nat_tests) in
      rw (made.value_is, made.mask_is) at e

  words_fit : bit_and (word (at_place s.at bytes) 8) (word (behind lead mask) 8) ≡ bit_and (word (behind lead value) 8) (word (behind lead mask) 8) → fits s bytes ≡ true
  words_fit e =
      let f : bit_and (word (at_place s.at bytes) 8) s.mask ≡ s.value = rw (made.value_is, made.mask_is) e in
      grind (arith, nat_tests)

  each_fits : fits s bytes ≡ true → (j : ℕ) → j < length value → AgreesAt j
  unfolding AgreesAt
  each_fits f j l =
      let first = made.at_least in
      let last = made.at_most (omega arith) in
      let both = bytes-agree (at_place s.at bytes) (behind lead value) (behind lead mask) (λ i. are_bytes (s.at + i)) (behind-small lead value value_bytes) (behind-small lead mask mask_bytes) (equal_words f) (lead + j) (omega arith) in
      let place : s.at + (lead + j) ≡ offset + j = omega arith in
      rw (behind_at lead mask j, behind_at lead value j, place) at both

  byte_fits : ((j : ℕ) → j < length value → AgreesAt j) → (i : ℕ) → bit_and (slice_index bytes (s.at + i)) (behind lead mask i) ≡ bit_and (behind lead value i) (behind lead mask i)
  unfolding AgreesAt
  byte_fits h i = elim (cases_lt i lead) [
    | inl l ↦ rw (behind_before lead mask i l, and_zero_r (slice_index bytes (s.at + i)), and_zero_r (behind lead value i)) refl
    | inr l ↦ elim (cases_lt i (lead + length value)) [
      | inl m ↦
          let first = made.at_least in
          let j : i ≡ lead + (i - lead) = omega arith in
          let place : s.at + (lead + (i - lead)) ≡ offset + (i - lead) = omega arith in
          rw j (rw (behind_at lead mask (i - lead), behind_at lead value (i - lead), place) (h (i - lead) (omega arith)))
      | inr m ↦
          let same = made.same in
          rw (behind_after lead mask i (omega arith), and_zero_r (slice_index bytes (s.at + i)), and_zero_r (behind lead value i)) refl
    ]
  ]

  fits_each : ((j : ℕ) → j < length value → AgreesAt j) → fits s bytes ≡ true
  fits_each h = words_fit (words-agree (at_place s.at bytes) (behind lead value) (behind lead mask) (λ i. are_bytes (s.at + i)) (behind-small lead value value_bytes) (behind-small lead mask mask_bytes) (λ i l. byte_fits h i))

  step_then : step_holds s bytes ≡ true → agrees (drop offset bytes) value mask ≡ true
  unfolding AgreesAt
  step_then h =
      let both = when_holds s bytes h in
      let each = each_fits both.0 in
      let long = length-drop offset bytes in
      let reach : length value ≤ length (drop offset bytes) = elim (cases_lt 0 (length value)) [
        | inl some ↦
            let last = made.at_most some in
            let end = made.end_some some in
            elim both.1 [ inl l ↦ omega (arith, long, last, l) | inr l ↦ omega (arith, long, end, l) ]
        | inr none ↦ omega arith
      ] in
      each-agrees (drop offset bytes) value mask made.same reach (λ j l. rw (get_or-drop offset bytes j 0) (each j l))

  then_step : agrees (drop offset bytes) value mask ≡ true → step_holds s bytes ≡ true
  unfolding AgreesAt
  then_step h =
      let both = agrees-each (drop offset bytes) value mask made.same h in
      let long = length-drop offset bytes in
      let reach = both.0 in
      let end : s.end ≤ length bytes = elim (cases_lt 0 (length value)) [
        | inl some ↦ let end = made.end_some some in omega (arith, long, reach, end)
        | inr none ↦ let end = made.end_none (omega arith) in omega (arith, end)
      ] in
      holds_when s bytes (fits_each (λ j l. let e = both.1 j l in rw (get_or-drop offset bytes j 0) at e)) end

pub made_step : (offset : ℕ) (value mask : List ℕ) (s : Step) → IsMadeOf offset value mask s → IsBytes value → IsBytes mask → IsStep offset value mask s
made_step offset value mask s made v m = record {
  step_agrees = λ bytes b. same_bools (step_holds s bytes) (agrees (drop offset bytes) value mask)
      (step_then offset value mask s made v m bytes b) (then_step offset value mask s made v m bytes b);
}

rest_at : (at k : ℕ) (bytes : List ℕ) (i : ℕ) → k ≡ min (length bytes) at → behind 0 (drop k bytes) i ≡ at_place at bytes i
rest_at at k bytes i e =
    let t : nat_le 0 i ≡ true = grind (arith, nat_tests) in
    let same : i - 0 ≡ i = omega arith in
    let read = get_or-drop k bytes i 0 in
    rw (t, same, read) (elim (cases_lt at (length bytes)) [
      | inl l ↦ ap (λ n. slice_index bytes n) (omega (arith, e))
      | inr l ↦ nothing bytes (k + i) (omega (arith, e)) ∙ sym (nothing bytes (at + i) (omega arith))
    ])

-- the eight bytes at the end of a packet
pub rest_word : (at k : ℕ) (bytes : List ℕ) → k ≡ min (length bytes) at → word (behind 0 (drop k bytes)) 8 ≡ word (at_place at bytes) 8
rest_word at k bytes e = word-same 8 (behind 0 (drop k bytes)) (at_place at bytes) (λ i l. rest_at at k bytes i e)
