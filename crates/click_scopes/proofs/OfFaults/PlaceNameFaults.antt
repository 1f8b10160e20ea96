-- The first misuse of a name, class or declaration at each index of the table.
use Rattle.std.proofs.Common.{◌≡◌, ◌⊎◌, inl, inr, ℕ, ◌+◌, ◌<◌, List, length, get_or, Bool, nat_lt, Option, Some, None, refl, sym, ap, ◌∙◌, subst, arith}
use Rattle.std.specs.List.{slice_get}
use Rattle.std.proofs.lemmas.Bool.{cases_order}
use Rattle.std.proofs.lemmas.Option.{slice_get-get_or}
use Rattle.click_text.specs.declared.syntax.Body.{Body}
use Rattle.click_text.specs.declared.syntax.Config.{Config}
use Rattle.click_scopes.specs.kept.FirstFault.{first_of, AtMost, IsLeast, IsWrongScopeElement}
use Rattle.click_scopes.specs.kept.NameFaults.{IsWrongAt, IsWrongWithin, IsNameFaultWithin, IsWrongEntry, original_at}
use Rattle.click_scopes.specs.kept.Lookups.{elements_by}
use Rattle.click_scopes.specs.declared.scope_elements.ScopeElement.{ScopeElement as ScopeElementKept}
use Rattle.click_scopes.specs.declared.scopes.Scope.{Scope as ScopeKept}
use Rattle.click_scopes.specs.declared.classes.ClassEntry.{ClassEntry}
use Rattle.click_scopes.specs.declared.first_fault.TokenFault.{TokenFault}
use Rattle.click_scopes.proofs.OfFaults.LeastWrongUse.{least-first_of, least-alone, least-same, at_most-through}

some_same : {X : Type 0} {x y : X} → Some x ≡ Some y → x ≡ y
some_same h = cc h

-- the first misuse for which P holds is the first for which Q holds, if each of the latter comes no
-- earlier than one of the former
pub least-before : (P Q : TokenFault → Type 0) (o : Option TokenFault) → ((w : TokenFault) → P w → Q w) → ((w : TokenFault) → Q w → (v : TokenFault) × P v × AtMost v w) → IsLeast P o → IsLeast Q o
least-before P Q None f g h = λ w q. let r = g w q in h r.0 r.1
least-before P Q (Some x) f g h = (f x h.0, λ w q. let r = g w q in at_most-through x r.0 w (h.1 r.0 r.1) r.2)

-- the first misuse comes no later than any other
pub least-found : (P : TokenFault → Type 0) (o : Option TokenFault) (w : TokenFault) → IsLeast P o → P w → (v : TokenFault) × (o ≡ Some v) × AtMost v w
least-found P None w h p = absurd (h w p)
least-found P (Some x) w h p = (x, refl, h.1 w p)

pub least-is : (P : TokenFault → Type 0) (o : Option TokenFault) (w : TokenFault) → IsLeast P o → o ≡ Some w → P w
least-is P None w h e = absurd (cc e)
least-is P (Some x) w h e = subst P (some_same e) h.0

at_most-self : (w : TokenFault) → AtMost w w
at_most-self w = inr (refl, omega arith)

pub at_most-same : (P : TokenFault → Type 0) (w : TokenFault) → P w → (v : TokenFault) × P v × AtMost v w
at_most-same P w p = (w, p, at_most-self w)

module _ (class_table : List ClassEntry) where
  pub class_table-none : IsLeast (IsWrongEntry class_table 0) None
  class_table-none = λ w h. let l = h.within in omega (arith, l)

  pub class_table-next : (i : ℕ) (d e : ClassEntry) (o r : Option TokenFault) → i < length class_table → e ≡ get_or class_table i d → r ≡ first_of o (original_at e.original e.class) →
      IsLeast (IsWrongEntry class_table i) o → IsLeast (IsWrongEntry class_table (i + 1)) r
  class_table-next i d e o r l is q h =
      let here = original_at e.original e.class in
      let there : slice_get class_table i ≡ Some e = slice_get-get_or class_table i d l ∙ ap Some (sym is) in
      subst (IsLeast (IsWrongEntry class_table (i + 1))) (sym q)
      (least-same (λ w. IsWrongEntry class_table i w ⊎ (here ≡ Some w)) (IsWrongEntry class_table (i + 1)) (first_of o here)
      (λ w c. elim c [
        | inl p ↦ record { place = p.place; entry = p.entry; within = (let m = p.within in omega (arith, m)); there = p.there; is = p.is }
        | inr p ↦ record { place = i; entry = e; within = omega arith; there = there; is = p }
      ])
      (λ w p. elim (cases_order p.place i) [
        | inl s ↦ inr (let f : e ≡ p.entry = some_same (sym there ∙ ap (slice_get class_table) (sym s) ∙ p.there) in
            ap (λ (x : ClassEntry). original_at x.original x.class) f ∙ p.is)
        | inr (inl s) ↦ inl (record { place = p.place; entry = p.entry; within = s; there = p.there; is = p.is })
        | inr (inr s) ↦ absurd (let m = p.within in omega (arith, m, s))
      ])
      (least-first_of (IsWrongEntry class_table i) (λ w. here ≡ Some w) o here h (least-alone here)))

module _ (c : Config) (all : List ScopeKept) where
  -- the misuse at an index, for the values that the code reads
  pub place-read : (text : List ℕ) (bodies : List Body) (b : Bool) (items : List ScopeElementKept) (place : ℕ) (o : Option TokenFault) →
      text ≡ c.text → bodies ≡ c.bodies → b ≡ nat_lt place (length c.bodies) → items ≡ elements_by (slice_get all place) →
      IsLeast (IsWrongScopeElement text bodies b items (length items)) o → IsLeast (IsWrongAt c all place) o
  place-read text bodies b items place o te be ne le h =
      let ls = elements_by (slice_get all place) in
      subst (λ x. IsLeast (IsWrongScopeElement x c.bodies (nat_lt place (length c.bodies)) ls (length ls)) o) te
      (subst (λ x. IsLeast (IsWrongScopeElement text x (nat_lt place (length c.bodies)) ls (length ls)) o) be
      (subst (λ x. IsLeast (IsWrongScopeElement text bodies x ls (length ls)) o) ne
      (subst (λ x. IsLeast (IsWrongScopeElement text bodies b x (length x)) o) le h)))

  pub bodies-none : IsLeast (IsNameFaultWithin c all 0) None
  bodies-none = λ w h. let l = h.within in omega (arith, l)

  pub bodies-next : (i : ℕ) (o here r : Option TokenFault) → r ≡ first_of o here → IsLeast (IsWrongWithin c all i) here → IsLeast (IsNameFaultWithin c all i) o → IsLeast (IsNameFaultWithin c all (i + 1)) r
  bodies-next i o here r q k h =
      subst (IsLeast (IsNameFaultWithin c all (i + 1))) (sym q)
      (least-same (λ w. IsNameFaultWithin c all i w ⊎ IsWrongWithin c all i w) (IsNameFaultWithin c all (i + 1)) (first_of o here)
      (λ w d. elim d [
        | inl p ↦ record { place = p.place; within = (let m = p.within in omega (arith, m)); is = p.is }
        | inr p ↦ record { place = i; within = omega arith; is = p }
      ])
      (λ w p. elim (cases_order p.place i) [
        | inl s ↦ inr (subst (λ n. IsWrongWithin c all n w) s p.is)
        | inr (inl s) ↦ inl (record { place = p.place; within = s; is = p.is })
        | inr (inr s) ↦ absurd (let m = p.within in omega (arith, m, s))
      ])
      (least-first_of (IsNameFaultWithin c all i) (IsWrongWithin c all i) o here h k))

  pub bodies-all : (i n : ℕ) (o : Option TokenFault) → i ≡ n → IsLeast (IsNameFaultWithin c all i) o → IsLeast (IsNameFaultWithin c all n) o
  bodies-all i n o e h = subst (λ x. IsLeast (IsNameFaultWithin c all x) o) e h
