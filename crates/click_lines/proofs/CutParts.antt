-- Lemmas about the text before and after the first occurrence of a byte.
use Rattle.std.proofs.Common.{◌≡◌, ◌⊎◌, ℕ, ◌+◌, ◌<◌, ◌≤◌, ◌==◌, Bool, true, false, not, List, [], ◌∷◌, ◌++◌, length, take, drop, slice_index, zero, suc, refl, sym, ap, ◌∙◌, inl, inr, arith}
use Rattle.std.proofs.lemmas.Bool.{and_parts}
use Rattle.std.proofs.lemmas.List.{append-nil}
use Rattle.click_lines.specs.Reading.{before, after}
use Rattle.click_lines.specs.Spelling.{behind, joined}
use Rattle.click_lines.proofs.CutTexts.{lacks}

not_false : (t : Bool) → not t ≡ true → t ≡ false
not_false true e = sym e
not_false false e = refl

same : (c : ℕ) → (c == c) ≡ true
same c = grind arith

-- a text without the byte is not cut
pub before-lacks : (c : ℕ) (x : List ℕ) → lacks c x ≡ true → before c x ≡ x
before-lacks c [] h = refl
before-lacks c (b ∷ x) h =
    let parts = and_parts (not (b == c)) (lacks c x) h in
    rw (not_false (b == c) parts.0, before-lacks c x parts.1) refl

pub after-lacks : (c : ℕ) (x : List ℕ) → lacks c x ≡ true → after c x ≡ []
after-lacks c [] h = refl
after-lacks c (b ∷ x) h =
    let parts = and_parts (not (b == c)) (lacks c x) h in
    rw (not_false (b == c) parts.0) (after-lacks c x parts.1)

pub before-at : (c : ℕ) (x y : List ℕ) → lacks c x ≡ true → before c (x ++ c ∷ y) ≡ x
before-at c [] y h = rw (same c) refl
before-at c (b ∷ x) y h =
    let parts = and_parts (not (b == c)) (lacks c x) h in
    rw (not_false (b == c) parts.0, before-at c x y parts.1) refl

pub after-at : (c : ℕ) (x y : List ℕ) → lacks c x ≡ true → after c (x ++ c ∷ y) ≡ y
after-at c [] y h = rw (same c) refl
after-at c (b ∷ x) y h =
    let parts = and_parts (not (b == c)) (lacks c x) h in
    rw (not_false (b == c) parts.0) (after-at c x y parts.1)

-- ---- by the index of the byte

other_false : (b c : ℕ) → ((b == c) ≡ true → ⊥) → (b == c) ≡ false
other_false b c h = grind (arith, h)

pub nowhere-before : (c : ℕ) (x : List ℕ) → ((k : ℕ) → k < length x → (slice_index x k == c) ≡ true → ⊥) → (before c x ≡ x) × (after c x ≡ [])
nowhere-before c [] h = (refl, refl)
nowhere-before c (b ∷ x) h =
    let first : (b == c) ≡ false = other_false b c (h 0 (omega arith)) in
    let more = nowhere-before c x (λ k lt. h (suc k) (omega (arith, lt))) in
    (rw (first, more.0) refl, rw first more.1)

next : (n : ℕ) → suc (n + 1) ≡ suc n + 1
next n = omega arith

pub place-before : (c : ℕ) (x : List ℕ) (place : ℕ) → place < length x → (slice_index x place == c) ≡ true
    → ((k : ℕ) → k < place → (slice_index x k == c) ≡ true → ⊥) → (before c x ≡ take place x) × (after c x ≡ drop (place + 1) x)
place-before c [] place lt at h = absurd (omega (arith, lt))
place-before c (b ∷ x) zero lt at h = (rw at refl, rw at refl)
place-before c (b ∷ x) (suc place) lt at h =
    let first : (b == c) ≡ false = other_false b c (h 0 (omega arith)) in
    let more = place-before c x place (omega (arith, lt)) at (λ k l. h (suc k) (omega (arith, l))) in
    (rw (first, more.0) refl, rw first (more.1 ∙ ap (λ (n : ℕ). drop n (b ∷ x)) (next place)))

by_test : (t : Bool) → (t ≡ true) ⊎ (t ≡ false)
by_test true = inl refl
by_test false = inr refl

at_most : (c : ℕ) (x : List ℕ) → length (after c x) ≤ length x
at_most c [] = omega arith
at_most c (b ∷ x) = elim (by_test (b == c)) [
  | inl t ↦ rw t (omega arith)
  | inr f ↦ rw f (let more = at_most c x in omega (arith, more))
]

shorter : (c b : ℕ) (x : List ℕ) → length (after c (b ∷ x)) < length (b ∷ x)
shorter c b x = elim (by_test (b == c)) [
  | inl t ↦ rw t (omega arith)
  | inr f ↦ rw f (let more = at_most c x in omega (arith, more))
]

-- the text after the byte is shorter by at least one byte
pub after-shorter : (c : ℕ) (x : List ℕ) → 0 < length x → length (after c x) < length x
after-shorter c [] lt = absurd (omega (arith, lt))
after-shorter c (b ∷ x) lt = shorter c b x

-- ---- joined parts

-- the first part is the text before the byte, and the text after it is the other parts
pub first_part : (c : ℕ) (f : List ℕ) (fs : List (List ℕ)) → lacks c f ≡ true → (before c (joined c (f ∷ fs)) ≡ f) × (after c (joined c (f ∷ fs)) ≡ joined c fs)
first_part c f [] h = (rw (append-nil f) (before-lacks c f h), rw (append-nil f) (after-lacks c f h))
first_part c f (g ∷ gs) h = (before-at c f (g ++ behind c gs) h, after-at c f (g ++ behind c gs) h)
