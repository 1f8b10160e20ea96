-- The first misuse of a compound, index by index.
use Rattle.std.proofs.Common.{◌≡◌, ◌⊎◌, inl, inr, ℕ, ◌+◌, List, length, subst, Option, Some, None, sym, ap, ◌∙◌, arith}
use Rattle.std.specs.List.{slice_get}
use Rattle.std.proofs.lemmas.Bool.{cases_order}
use Rattle.std.proofs.lemmas.Option.{same_Some}
use Rattle.click_text.specs.declared.syntax.Body.{Body}
use Rattle.click_scopes.specs.kept.FirstFault.{IsLeast, first_of}
use Rattle.click_scopes.specs.kept.CompoundFaults.{Among, IsWrongCall, IsWrongWrittenConnection, IsWrongIn, IsCompoundFaultOfBody, call_fault_at, source_by, target_by, gap_at}
use Rattle.click_scopes.specs.kept.Lookups.{elements_by, connections_by}
use Rattle.click_scopes.specs.declared.scope_elements.ScopeElement.{ScopeElement as ScopeElementKept}
use Rattle.click_scopes.specs.declared.written_connections.WrittenConnection.{WrittenConnection as ConnectionKept}
use Rattle.click_scopes.specs.declared.scopes.Scope.{Scope as ScopeKept}
use Rattle.click_scopes.specs.declared.ports.Ports.{Ports}
use Rattle.click_scopes.specs.declared.first_fault.TokenFault.{TokenFault}
use Rattle.click_scopes.proofs.OfFaults.LeastWrongUse.{least-first_of, least-alone, least-same}

module _ (C : ℕ → TokenFault → Type 0) where
  pub among-none : IsLeast (Among C 0) None
  among-none = λ w h. let l = h.within in omega (arith, l)

  pub among-next : (i : ℕ) (o here : Option TokenFault) → IsLeast (Among C i) o → IsLeast (C i) here → IsLeast (Among C (i + 1)) (first_of o here)
  among-next i o here h k =
      least-same (λ w. Among C i w ⊎ C i w) (Among C (i + 1)) (first_of o here)
      (λ w c. elim c [
        | inl p ↦ record { place = p.place; within = (let m = p.within in omega (arith, m)); is = p.is }
        | inr p ↦ record { place = i; within = omega arith; is = p }
      ])
      (λ w p. elim (cases_order p.place i) [
        | inl q ↦ inr (subst (λ n. C n w) q p.is)
        | inr (inl q) ↦ inl (record { place = p.place; within = q; is = p.is })
        | inr (inr q) ↦ absurd (let m = p.within in omega (arith, m, q))
      ])
      (least-first_of (Among C i) (C i) o here h k)

  pub among-all : (i n : ℕ) (o : Option TokenFault) → i ≡ n → IsLeast (Among C i) o → IsLeast (Among C n) o
  among-all i n o e h = subst (λ m. IsLeast (Among C m) o) e h

-- the wrong call of an element, as the first misuse at its index
pub call-here : (bodies : List Body) (ls : List ScopeElementKept) (i : ℕ) (l : ScopeElementKept) (o : Option TokenFault) → slice_get ls i ≡ Some l →
    o ≡ call_fault_at bodies l → IsLeast (IsWrongCall bodies ls i) o
call-here bodies ls i l o there e =
    subst (IsLeast (IsWrongCall bodies ls i)) (sym e)
    (least-same (λ w. call_fault_at bodies l ≡ Some w) (IsWrongCall bodies ls i) (call_fault_at bodies l)
    (λ w p. record { element = l; there = there; is = p })
    (λ w p. ap (λ (x : ScopeElementKept). call_fault_at bodies x) (same_Some l p.element (sym there ∙ p.there)) ∙ p.is)
    (least-alone (call_fault_at bodies l)))

pub written_connection-here : (ls : List ScopeElementKept) (ports : List Ports) (ks : List ConnectionKept) (i : ℕ) (k : ConnectionKept) (a b o : Option TokenFault) → slice_get ks i ≡ Some k →
    a ≡ source_by ls ports k.from.owner k.out_port k.from.first → b ≡ target_by ls ports k.to.owner k.in_port k.to.first → o ≡ first_of a b → IsLeast (IsWrongWrittenConnection ls ports ks i) o
written_connection-here ls ports ks i k a b o there p q e =
    let source = λ (x : ConnectionKept). source_by ls ports x.from.owner x.out_port x.from.first in
    let target = λ (x : ConnectionKept). target_by ls ports x.to.owner x.in_port x.to.first in
    subst (IsLeast (IsWrongWrittenConnection ls ports ks i)) (sym (e ∙ ap (λ x. first_of x b) p ∙ ap (first_of (source k)) q))
    (least-same (λ w. (source k ≡ Some w) ⊎ (target k ≡ Some w)) (IsWrongWrittenConnection ls ports ks i) (first_of (source k) (target k))
    (λ w c. record { written_connection = k; there = there; is = c })
    (λ w c. let s : c.written_connection ≡ k = same_Some c.written_connection k (sym c.there ∙ there) in subst (λ x. (source x ≡ Some w) ⊎ (target x ≡ Some w)) s c.is)
    (least-first_of (λ w. source k ≡ Some w) (λ w. target k ≡ Some w) (source k) (target k) (least-alone (source k)) (least-alone (target k))))

module _ (bodies : List Body) (scopes : List ScopeKept) (ports : List Ports) where
  pub body-here : (i : ℕ) (a b o : Option TokenFault) → IsLeast (IsWrongIn bodies scopes ports i) a → b ≡ gap_at bodies ports i → o ≡ first_of a b →
      IsLeast (IsCompoundFaultOfBody bodies scopes ports i) o
  body-here i a b o h p e =
      subst (IsLeast (IsCompoundFaultOfBody bodies scopes ports i)) (sym (e ∙ ap (first_of a) p))
      (least-first_of (IsWrongIn bodies scopes ports i) (λ w. gap_at bodies ports i ≡ Some w) a (gap_at bodies ports i) h (least-alone (gap_at bodies ports i)))

  pub scope-here : (i : ℕ) (ls : List ScopeElementKept) (ks : List ConnectionKept) (a b o : Option TokenFault) → ls ≡ elements_by (slice_get scopes i) → ks ≡ connections_by (slice_get scopes i) →
      IsLeast (Among (IsWrongCall bodies ls) (length ls)) a → IsLeast (Among (IsWrongWrittenConnection ls ports ks) (length ks)) b → o ≡ first_of a b → IsLeast (IsWrongIn bodies scopes ports i) o
  scope-here i ls ks a b o p r h k e =
      let ls' = elements_by (slice_get scopes i) in let ks' = connections_by (slice_get scopes i) in
      let h1 = subst (λ x. IsLeast (Among (IsWrongCall bodies x) (length x)) a) p h in
      let k1 = subst (λ x. IsLeast (Among (IsWrongWrittenConnection x ports ks) (length ks)) b) p k in
      let k2 = subst (λ x. IsLeast (Among (IsWrongWrittenConnection ls' ports x) (length x)) b) r k1 in
      subst (IsLeast (IsWrongIn bodies scopes ports i)) (sym e)
      (least-first_of (Among (IsWrongCall bodies ls') (length ls')) (Among (IsWrongWrittenConnection ls' ports ks') (length ks')) a b h1 k2)
