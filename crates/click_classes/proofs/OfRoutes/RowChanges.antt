-- A row covers the addresses from its network on, as many as its mask leaves open.
use Rattle.std.proofs.Common.{◌≡◌, ℕ, ◌+◌, ◌-◌, ◌*◌, ◌/◌, ◌%◌, ◌^◌, ◌<◌, ◌≤◌, true, false, sym, ap, ◌∙◌, arith, inl, inr}
use Rattle.std.specs.Prelude.{bit_and}
use Rattle.std.proofs.Math.Nat.{mod-lt}
use Rattle.std.proofs.lemmas.Bool.{cases_Bool, cases_lt}
use Rattle.std.proofs.lemmas.Bool.Decides.{nat_tests}
use Rattle.std.proofs.lemmas.Nat.{shr_split, shr_high, pow_pos}
use Rattle.std.proofs.lemmas.Nat.Bits.{and_high_mask}
use Rattle.std.proofs.Math.Pow.{pow_mono}
use Rattle.click_classes.specs.declared.routes.Row.{Row}
use Rattle.click_classes.specs.kept.Rows.{IsReady, fits}

module _ (n k : ℕ) (within : k ≤ 32) where
  -- a number with the bits of the network is less than 2 ^ k after it
  from_network : (w : ℕ) → w < 2 ^ 32 → bit_and w (2 ^ 32 - 2 ^ k) ≡ n → n ≤ w
  from_network w small e =
      let masked = and_high_mask 32 k within w small in
      let split = shr_split w k in
      omega (arith, masked, split, e)

  until_end : (w : ℕ) → w < 2 ^ 32 → bit_and w (2 ^ 32 - 2 ^ k) ≡ n → w < n + 2 ^ k
  until_end w small e =
      let masked = and_high_mask 32 k within w small in
      let split = shr_split w k in
      let rest : w % 2 ^ k < 2 ^ k = mod-lt w (pow_pos k) in
      omega (arith, masked, split, rest, e)

  -- if one number has the bits of the network, each number in the network's range has them
  each_has : (w v : ℕ) → w < 2 ^ 32 → v < 2 ^ 32 → bit_and w (2 ^ 32 - 2 ^ k) ≡ n → n ≤ v → v < n + 2 ^ k → bit_and v (2 ^ 32 - 2 ^ k) ≡ n
  each_has w v small fits_in e from until =
      let masked = and_high_mask 32 k within w small in
      let other = and_high_mask 32 k within v fits_in in
      let high = shr_high (w / 2 ^ k) k (v - n) (omega arith) in
      let whole : w / 2 ^ k * 2 ^ k + (v - n) ≡ v = omega (arith, masked, e) in
      let same : v / 2 ^ k ≡ w / 2 ^ k = ap (λ x. x / 2 ^ k) (sym whole) ∙ high in
      other ∙ ap (λ x. x * 2 ^ k) same ∙ sym masked ∙ e

-- the numbers from a word that fits the row up to the row's end fit it
module _ (r : Row) (ready : IsReady r) (b : ℕ) (small : b < 2 ^ 32) where
  size : 2 ^ 32 - r.mask ≡ 2 ^ ready.rest
  size =
      let less : 2 ^ ready.rest ≤ 2 ^ 32 = pow_mono ready.rest_within in
      let m = ready.mask_is in
      omega (arith, m, less)

  masked : (w : ℕ) → fits r w ≡ true → bit_and w (2 ^ 32 - 2 ^ ready.rest) ≡ r.network
  masked w t =
      let e : bit_and w r.mask ≡ r.network = grind (arith, nat_tests) in
      rw ready.mask_is at e

  has_fit : (w : ℕ) → bit_and w (2 ^ 32 - 2 ^ ready.rest) ≡ r.network → fits r w ≡ true
  has_fit w e =
      let f : bit_and w r.mask ≡ r.network = rw ready.mask_is e in
      grind (arith, nat_tests)

  pub fits_before_end : fits r b ≡ true → b < r.network + (2 ^ 32 - r.mask)
  fits_before_end t =
      let until = until_end r.network ready.rest ready.rest_within b small (masked b t) in
      omega (arith, until, size)

  pub fits_until_end : (w : ℕ) → fits r b ≡ true → b ≤ w → w < r.network + (2 ^ 32 - r.mask) → w < 2 ^ 32 → fits r w ≡ true
  fits_until_end w t after before within =
      let e = masked b t in
      let from = from_network r.network ready.rest ready.rest_within b small e in
      has_fit w (each_has r.network ready.rest ready.rest_within b w small within e (omega arith) (omega (arith, size, before)))

  -- the numbers from a word that does not fit the row up to its network do not fit it
  pub fits_not_yet : (w x : ℕ) → fits r b ≡ false → b ≤ w → w < x → x ≤ 2 ^ 32 → (b < r.network → x ≤ r.network) → fits r w ≡ false
  fits_not_yet w x t after before within first = elim (cases_Bool (fits r w)) [
    | inl u ↦
        let e = masked w u in
        let from = from_network r.network ready.rest ready.rest_within w (omega arith) e in
        let until = until_end r.network ready.rest ready.rest_within w (omega arith) e in
        elim (cases_lt b r.network) [
          | inl l ↦ let last = first l in absurd (omega arith)
          | inr l ↦
              let v = has_fit b (each_has r.network ready.rest ready.rest_within w b (omega arith) small e l (omega arith)) in
              cc
        ]
    | inr u ↦ u
  ]
