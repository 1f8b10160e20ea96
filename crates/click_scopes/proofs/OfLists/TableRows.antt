-- A table that is filled row by row, each row from that of another table.
use Rattle.std.proofs.Common.{◌≡◌, inl, inr, ℕ, ◌+◌, ◌<◌, List, [], ◌∷◌, ◌++◌, length, Some, sym, ap, ◌∙◌, subst, arith}
use Rattle.std.specs.List.{slice_get}
use Rattle.std.proofs.lemmas.Bool.{cases_order}
use Rattle.std.proofs.lemmas.List.{length_push}
use Rattle.std.proofs.lemmas.Option.{same_Some}
use Rattle.click_scopes.proofs.OfLists.StatementTables.{slice_get-more, slice_get-last}

module _ {K X : Type 0} (R : ℕ → K → X → Type 0) where
  -- the rows before index i are filled
  pub record Filled (ks : List K) (all : List X) (i : ℕ) : Type 0 where
    pub count : length all ≡ i
    pub each : (j : ℕ) (k : K) → j < i → slice_get ks j ≡ Some k → (x : X) × (slice_get all j ≡ Some x) × R j k x

  pub filled-first : (ks : List K) (all : List X) → all ≡ [] → Filled ks all 0
  filled-first ks all e = record { count = ap length e; each = λ j k l. absurd (omega (arith, l)) }

  pub filled-next : (ks : List K) (all new : List X) (i : ℕ) (k : K) (x : X) → slice_get ks i ≡ Some k → R i k x → new ≡ all ++ x ∷ [] → Filled ks all i → Filled ks new (i + 1)
  filled-next ks all new i k x e h p f = record {
    count = ap length p ∙ length_push all x ∙ ap (λ n. n + 1) f.count;
    each = λ j q l m. elim (cases_order j i) [
      | inl s ↦
          (let same : k ≡ q = same_Some k q (sym e ∙ ap (slice_get ks) (sym s) ∙ m) in (
            x,
            ap (slice_get new) (s ∙ sym f.count) ∙ ap (λ xs. slice_get xs (length all)) p ∙ slice_get-last all x,
            subst (λ n. R n q x) (sym s) (subst (λ y. R i y x) same h),
          ))
      | inr (inl s) ↦ (let r = f.each j q s m in (r.0, ap (λ xs. slice_get xs j) p ∙ slice_get-more all (x ∷ []) j r.0 r.1, r.2))
      | inr (inr s) ↦ absurd (omega (arith, l, s))
    ];
  }
