-- Lemmas about bytes that agree with a value under a mask.
use Rattle.std.proofs.Common.{◌≡◌, ◌==◌, ℕ, zero, suc, ◌<◌, ◌≤◌, List, [], ◌∷◌, length, take, drop, get_or, Bool, false, true, ◌&&◌, bit_and, min, refl, sym, ap, ◌∙◌, inl, inr, arith}
use Rattle.std.proofs.lemmas.List.{drop_all}
use Rattle.std.proofs.lemmas.Bool.{cases_Bool, cases_lt}
use Rattle.std.proofs.lemmas.Bool.Decides.{nat_tests}
use Rattle.click_classes.specs.Matches.{agrees}

agrees-empty_value : (bytes mask : List ℕ) → agrees bytes [] mask ≡ true
agrees-empty_value [] [] = refl
agrees-empty_value [] (m ∷ mask) = refl
agrees-empty_value (b ∷ bytes) [] = refl
agrees-empty_value (b ∷ bytes) (m ∷ mask) = refl

agrees-empty_mask : (bytes value : List ℕ) → agrees bytes value [] ≡ true
agrees-empty_mask [] [] = refl
agrees-empty_mask [] (v ∷ value) = refl
agrees-empty_mask (b ∷ bytes) [] = refl
agrees-empty_mask (b ∷ bytes) (v ∷ value) = refl

-- no byte of the value or of the mask is left
pub agrees-nothing : (bytes value mask : List ℕ) (at : ℕ) → min (length value) (length mask) ≤ at → agrees bytes (drop at value) (drop at mask) ≡ true
agrees-nothing bytes value mask at p =
    elim (cases_lt at (length value)) [
      | inl h ↦ ap (λ l. agrees bytes (drop at value) l) (drop_all at mask (omega arith)) ∙ agrees-empty_mask bytes (drop at value)
      | inr h ↦ ap (λ l. agrees bytes l (drop at mask)) (drop_all at value h) ∙ agrees-empty_value bytes (drop at mask)
    ]

first_and : (bytes value mask : List ℕ) (b v m : ℕ) → bit_and b m ≡ bit_and v m
    → ((i : ℕ) → i < length value → bit_and (get_or bytes i 0) (get_or mask i 0) ≡ bit_and (get_or value i 0) (get_or mask i 0))
    → (i : ℕ) → i < length (v ∷ value) → bit_and (get_or (b ∷ bytes) i 0) (get_or (m ∷ mask) i 0) ≡ bit_and (get_or (v ∷ value) i 0) (get_or (m ∷ mask) i 0)
first_and bytes value mask b v m e h zero l = e
first_and bytes value mask b v m e h (suc i) l = h i (omega arith)

-- bytes agree exactly if there are enough and each of them agrees
pub agrees-each : (bytes value mask : List ℕ) → length value ≡ length mask → agrees bytes value mask ≡ true
    → (length value ≤ length bytes) × ((i : ℕ) → i < length value → bit_and (get_or bytes i 0) (get_or mask i 0) ≡ bit_and (get_or value i 0) (get_or mask i 0))
agrees-each bytes [] [] e t = (omega arith, λ i l. absurd (omega arith))
agrees-each bytes [] (m ∷ mask) e t = absurd (omega arith)
agrees-each bytes (v ∷ value) [] e t = absurd (omega arith)
agrees-each [] (v ∷ value) (m ∷ mask) e t = cc
agrees-each (b ∷ bytes) (v ∷ value) (m ∷ mask) e t = elim (cases_Bool (bit_and b m == bit_and v m)) [
  | inl s ↦
      let u = rw s at t in
      let rest = agrees-each bytes value mask (omega (arith, e)) u in
      let more = rest.0 in
      (omega (arith, more), first_and bytes value mask b v m (grind (arith, nat_tests)) rest.1)
  | inr s ↦ let u = rw s at t in cc
]

pub each-agrees : (bytes value mask : List ℕ) → length value ≡ length mask → length value ≤ length bytes
    → ((i : ℕ) → i < length value → bit_and (get_or bytes i 0) (get_or mask i 0) ≡ bit_and (get_or value i 0) (get_or mask i 0)) → agrees bytes value mask ≡ true
each-agrees bytes [] [] e l h = agrees-empty_value bytes []
each-agrees bytes [] (m ∷ mask) e l h = absurd (omega arith)
each-agrees bytes (v ∷ value) [] e l h = absurd (omega arith)
each-agrees [] (v ∷ value) (m ∷ mask) e l h = absurd (omega arith)
each-agrees (b ∷ bytes) (v ∷ value) (m ∷ mask) e l h =
    let first : bit_and b m ≡ bit_and v m = h 0 (omega arith) in
    let s : (bit_and b m == bit_and v m) ≡ true = grind (arith, nat_tests) in
    rw s (each-agrees bytes value mask (omega (arith, e)) (omega (arith, l)) (λ i k. h (suc i) (omega arith)))

and_both : (a b c : Bool) → ((a && b) && c) ≡ (a && (b && c))
and_both true b c = refl
and_both false b c = refl

-- the first bytes of a value, and those after them
pub agrees-cut : (k : ℕ) (bytes value mask : List ℕ) → k ≤ length value → k ≤ length mask
    → agrees bytes value mask ≡ (agrees bytes (take k value) (take k mask) && agrees (drop k bytes) (drop k value) (drop k mask))
agrees-cut zero bytes value mask l h = rw (agrees-empty_value bytes []) refl
agrees-cut (suc k) bytes [] mask l h = absurd (omega arith)
agrees-cut (suc k) bytes (v ∷ value) [] l h = absurd (omega arith)
agrees-cut (suc k) [] (v ∷ value) (m ∷ mask) l h = refl
agrees-cut (suc k) (b ∷ bytes) (v ∷ value) (m ∷ mask) l h =
    ap (λ r. (bit_and b m == bit_and v m) && r) (agrees-cut k bytes value mask (omega (arith, l)) (omega (arith, h)))
    ∙ sym (and_both (bit_and b m == bit_and v m) (agrees bytes (take k value) (take k mask)) (agrees (drop k bytes) (drop k value) (drop k mask)))
