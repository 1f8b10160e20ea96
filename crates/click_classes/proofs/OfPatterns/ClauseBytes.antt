-- Lemmas about what a clause requires of a packet, byte by byte.
use Rattle.std.proofs.Common.{◌≡◌, ◌==◌, ◌↔◌, ℕ, ◌+◌, ◌/◌, ◌%◌, ◌<◌, ◌≤◌, List, [], ◌∷◌, length, take, drop, replicate, Bool, true, false, not, ◌&&◌, bit_and, Option, Some, None, Ok, refl, sym, ap, ◌∙◌, inl, inr, arith, length-drop, get_or-drop}
use Rattle.std.specs.Prelude.{nat_le, position, slice_index}
use Rattle.std.specs.List.{list_all}
use Rattle.std.proofs.lemmas.Bool.{cases_Bool}
use Rattle.std.proofs.lemmas.Bool.Decides.{nat_tests}
use Rattle.click_base.specs.Numbers.{hex_digit, decimal_in}
use Rattle.click_classes.specs.declared.values.pattern.Clause.{Clause}
use Rattle.click_classes.specs.Patterns.{pattern_digit, value_of, mask_of, are_digits, is_mask, clause_of, with_mask, with_offset, with_digits, clause}
use Rattle.click_classes.specs.Matches.{agrees, holds}
use Rattle.click_classes.proofs.OfPatterns.MaskedBytes.{agrees-each, each-agrees}

value-length : (ds : List ℕ) → length (value_of ds) ≡ length ds / 2
value-length [] = refl
value-length (h ∷ []) = refl
value-length (h ∷ l ∷ ds) = let r = value-length ds in omega (arith, r)

mask-length : (ds ms : List ℕ) → length ms ≡ length ds → length (mask_of ds ms) ≡ length ds / 2
mask-length [] ms e = refl
mask-length (h ∷ []) ms e = refl
mask-length (h ∷ l ∷ ds) [] e = absurd (omega (arith, e))
mask-length (h ∷ l ∷ ds) (m ∷ []) e = absurd (omega (arith, e))
mask-length (h ∷ l ∷ ds) (m ∷ n ∷ ms) e = let r = mask-length ds ms (omega (arith, e)) in omega (arith, r)

-- a clause has at least one byte, and a mask with as many bytes
pub record IsWhole (c : Clause) : Type 0 where
  pub some : 1 ≤ length c.value
  pub masked : length c.value ≡ length c.mask

both : (a b : Bool) → (a && b) ≡ true → (a ≡ true) × (b ≡ true)
both true b e = (refl, e)
both false b e = cc

clause_of-whole : (negated : Bool) (offset : ℕ) (ds ms : List ℕ) (c : Clause) → clause_of negated offset ds ms ≡ Ok c → IsWhole c
unfolding clause_of
clause_of-whole negated offset ds ms c e = elim (cases_Bool (are_digits ds && is_mask ds ms)) [
  | inl t ↦
      let f = rw t at e in
      let p = both (are_digits ds) (is_mask ds ms) t in
      let digits = both ((length ds % 2 == 0) && nat_le 2 (length ds) && nat_le (length ds) 128) (list_all pattern_digit ds) p.0 in
      let sizes = both ((length ds % 2 == 0) && nat_le 2 (length ds)) (nat_le (length ds) 128) digits.0 in
      let low = both (length ds % 2 == 0) (nat_le 2 (length ds)) sizes.0 in
      let as_many = both (length ms == length ds) (list_all hex_digit ms) p.1 in
      let two : 2 ≤ length ds = grind (arith, nat_tests) in
      let same : length ms ≡ length ds = grind (arith, nat_tests) in
      let v = value-length ds in
      let m = mask-length ds ms same in
      let parts : Clause = record { negated = negated; offset = offset; value = value_of ds; mask = mask_of ds ms } in
      let is : parts ≡ c = cc in
      rw (← is) (record { some = omega (arith, v); masked = v ∙ sym m })
  | inr t ↦ let f = rw t at e in cc
]

with_mask-whole : (negated : Bool) (offset : ℕ) (p : List ℕ) (at : Option ℕ) (c : Clause) → with_mask negated offset p at ≡ Ok c → IsWhole c
with_mask-whole negated offset p None c e = clause_of-whole negated offset p (replicate (length p) 102) c e
with_mask-whole negated offset p (Some at) c e = clause_of-whole negated offset (take at p) (drop (at + 1) p) c e

with_offset-whole : (negated : Bool) (p : List ℕ) (offset : Option ℕ) (c : Clause) → with_offset negated p offset ≡ Ok c → IsWhole c
with_offset-whole negated p None c e = cc
with_offset-whole negated p (Some offset) c e = with_mask-whole negated offset p (position (λ b. b == 37) p) c e

with_digits-whole : (negated : Bool) (p : List ℕ) (at : Option ℕ) (c : Clause) → with_digits negated p at ≡ Ok c → IsWhole c
with_digits-whole negated p None c e = cc
with_digits-whole negated p (Some at) c e = with_offset-whole negated (drop (at + 1) p) (decimal_in 1599 (take at p)) c e

pub clause-whole : (word : List ℕ) (c : Clause) → clause word ≡ Ok c → IsWhole c
unfolding clause
clause-whole word c e = elim (cases_Bool (slice_index word 0 == 33)) [
  | inl t ↦ let f = rw t at e in with_digits-whole true (drop 1 word) (position (λ b. b == 47) (drop 1 word)) c f
  | inr t ↦ let f = rw t at e in with_digits-whole false word (position (λ b. b == 47) word) c f
]

-- ---- what a clause requires of a packet

abbrev pub Wants : Clause → List ℕ → Type 0
Wants c bytes = (c.offset + length c.value ≤ length bytes)
    × ((i : ℕ) → i < length c.value → bit_and (slice_index bytes (c.offset + i)) (slice_index c.mask i) ≡ bit_and (slice_index c.value i) (slice_index c.mask i))

found : (c : Clause) (bytes : List ℕ) → IsWhole c → agrees (drop c.offset bytes) c.value c.mask ≡ true → Wants c bytes
found c bytes is e =
    let each = agrees-each (drop c.offset bytes) c.value c.mask is.masked e in
    let room = each.0 in
    let some = is.some in
    (omega (arith, length-drop c.offset bytes), λ i l. rw (← get_or-drop c.offset bytes i 0) (each.1 i l))

agreed : (c : Clause) (bytes : List ℕ) → IsWhole c → Wants c bytes → agrees (drop c.offset bytes) c.value c.mask ≡ true
agreed c bytes is w =
    let room = w.0 in
    each-agrees (drop c.offset bytes) c.value c.mask is.masked (omega (arith, length-drop c.offset bytes))
    (λ i l. rw (get_or-drop c.offset bytes i 0) (w.1 i l))

negated_twice : (b : Bool) → not b ≡ false → b ≡ true
negated_twice true e = refl
negated_twice false e = cc

pub holds-wanted : (word bytes : List ℕ) (c : Clause) → clause word ≡ Ok c → c.negated ≡ false → (holds c bytes ≡ true) ↔ Wants c bytes
holds-wanted word bytes c e n =
    let is = clause-whole word c e in
    (λ h. let f = rw n at h in found c bytes is f, λ w. rw n (agreed c bytes is w))

pub holds-negated : (word bytes : List ℕ) (c : Clause) → clause word ≡ Ok c → c.negated ≡ true → (holds c bytes ≡ false) ↔ Wants c bytes
holds-negated word bytes c e n =
    let is = clause-whole word c e in
    (λ h. let f = rw n at h in found c bytes is (negated_twice (agrees (drop c.offset bytes) c.value c.mask) f), λ w. rw n (ap not (agreed c bytes is w)))
