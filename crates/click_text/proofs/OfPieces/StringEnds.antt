-- Bytes that close a configuration string or a comment do not close it earlier.
use Rattle.std.proofs.Common.{◌≡◌, ℕ, List, [], ◌∷◌, ◌++◌, true, false, ◌&&◌, eqb, refl, inl, inr}
use Rattle.std.proofs.lemmas.Bool.{false≢true, cases_Bool}
use Rattle.click_text.specs.declared.strings.Mode.{Mode}
use Rattle.click_text.specs.Strings.{mode_after, depth_after, closes_outermost, closes}
use Rattle.click_text.specs.Pieces.{ends_comment}

pub closes_once : (m : Mode) (d : ℕ) (p : List ℕ) (y : ℕ) (ys : List ℕ) → closes m d p ≡ true → closes m d (p ++ y ∷ ys) ≡ false
closes_once m d [] y ys h = absurd (false≢true h)
closes_once m d (b ∷ []) y ys h = rw h refl
closes_once m d (b ∷ c ∷ p) y ys h = elim (cases_Bool (closes_outermost m d b)) [
  | inl e ↦ rw e refl
  | inr e ↦ let g : closes (mode_after m b) (depth_after m d b) (c ∷ p) ≡ true = rw e at h in
      rw e (closes_once (mode_after m b) (depth_after m d b) (c ∷ p) y ys g)
]

pub ends_once : (p : List ℕ) (y : ℕ) (ys : List ℕ) → ends_comment p ≡ true → ends_comment (p ++ y ∷ ys) ≡ false
ends_once [] y ys h = absurd (false≢true h)
ends_once (b ∷ []) y ys h = absurd (false≢true h)
ends_once (b ∷ c ∷ []) y ys h = rw h refl
ends_once (b ∷ c ∷ d ∷ p) y ys h = elim (cases_Bool (eqb b 42 && eqb c 47)) [
  | inl e ↦ rw e refl
  | inr e ↦ let g : ends_comment (c ∷ d ∷ p) ≡ true = rw e at h in rw e (ends_once (c ∷ d ∷ p) y ys g)
]
