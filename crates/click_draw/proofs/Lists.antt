-- Lemmas about a property of each item of a list, by its index.
use Rattle.std.proofs.Common.{◌≡◌, inl, inr, ℕ, ◌<◌, List, [], ◌∷◌, ◌++◌, length, length-append, subst, sym, arith}
use Rattle.std.proofs.Math.ListN.{get_or-append}
use Rattle.std.proofs.lemmas.List.{get_or_push}
use Rattle.std.proofs.lemmas.Bool.{cases_eq}
use Rattle.click_draw.specs.Picture.{EachAt}

pub EachAt-push : {X : Type 0} (P : ℕ → X → Type 0) → (xs : List X) (x : X) → EachAt P xs → P (length xs) x → EachAt P (xs ++ x ∷ [])
EachAt-push {X} P xs x h p k d l =
    let len = length-append xs (x ∷ []) in
    elim (cases_eq k (length xs)) [
      | inl e ↦ rw (get_or_push xs x d k (sym e)) (subst (λ (n : ℕ). P n x) (sym e) p)
      | inr e ↦
          let m : k < length xs = omega (arith, len, l, e) in
          rw (get_or-append xs (x ∷ []) d k m) (h k d m)
    ]

pub EachAt-nil : {X : Type 0} (P : ℕ → X → Type 0) → EachAt P []
EachAt-nil P k d l = absurd (omega (arith, l))

pub EachAt-push_at : {X : Type 0} (P : ℕ → X → Type 0) → (xs : List X) (x : X) (n : ℕ) → length xs ≡ n → EachAt P xs → P n x → EachAt P (xs ++ x ∷ [])
EachAt-push_at P xs x n e h p = EachAt-push P xs x h (subst (λ (m : ℕ). P m x) (sym e) p)
