use Rattle.std.proofs.Common.{◌≡◌, inl, inr, [], ◌∷◌, ◌++◌, List, Some, None, Option, Bool, true, false, cond, refl, ap, ◌∙◌, subst, Result, Ok, Err, OnErr}
use Rattle.std.specs.Map.{lookup}
use Rattle.std.specs.Option.{IsSome}
use Rattle.std.proofs.lemmas.Bool.{cases_Bool}
use Rattle.click_expand.specs.kept.Wiring.{ends_of, ends_or_none, ends_in, same_port}
use Rattle.click_expand.specs.declared.connections.connection_index.ScopePort.{ScopePort}
use Rattle.click_expand.specs.declared.connections.connection_index.PortEnds.{PortEnds}
use Rattle.click_expand.specs.declared.connections.connection_index.PortEnds.TheVariants.{One}
use Rattle.click_expand.proofs.OfConnections.ConnectionIndex.{port-exact}
use Rattle.click_expand.proofs.OfConnections.PortEquality.{port-eq}
use Rattle.click_expand.proofs.connections.connection_index.ConnectionIndex.add.Goals as goal

-- the ends of a port, after an insertion at one port
put : (b : Bool) (old new : Option PortEnds) (ends : PortEnds) (all : List ScopePort) → new ≡ cond b (Some ends) old → ends_of ends ≡ all →
    ends_or_none new ≡ cond b all (ends_or_none old)
put true old new ends all p q = ap ends_or_none p ∙ q
put false old new ends all p q = ap ends_or_none p

kept : (from q : ScopePort) (es : List (ScopePort × PortEnds)) → cond (same_port from q) (ends_in es from) (ends_in es q) ≡ ends_in es q
kept from q es = elim (cases_Bool (same_port from q)) [
  | inl t ↦ ap (λ b. cond b (ends_in es from) (ends_in es q)) t ∙ ap (ends_in es) (port-exact from q t)
  | inr f ↦ ap (λ b. cond b (ends_in es from) (ends_in es q)) f
]

on-err : {A E : Type 0} (r : Result A E) (P : Type 0) → P → OnErr r P
on-err (Ok a) P h = tt
on-err (Err e) P h = h

pub returns-in-Some-clause-added : goal.returns-in-Some-clause-added
returns-in-Some-clause-added c = λ q.
    let from = c.args.from in let old = c.args.self.now.ends.entries in let ends = c.push.new.self in let was = c.in-Some.ends.now in
    let new = (c.get_mut.follows.lender ends).entries in
    let v : Some was ≡ lookup (same_port from) old = subst (λ (e : ScopePort → ScopePort → Bool). Some was ≡ lookup (e from) old) port-eq c.in-Some.ensures.value in
    let p : lookup (same_port q) new ≡ cond (same_port from q) (Some ends) (lookup (same_port q) old) =
    subst (λ (e : ScopePort → ScopePort → Bool). lookup (e q) new ≡ cond (e from q) (Some ends) (lookup (e q) old)) port-eq
    (((c.get_mut.follows.holds ends).3 (subst IsSome c.in-Some.ensures.value refl)).0 q) in
    put (same_port from q) (lookup (same_port q) old) (lookup (same_port q) new) ends (ends_in old from ++ c.args.to ∷ []) p
    (c.in_ok-push.ensures.ok ∙ ap (λ x. x ++ c.args.to ∷ []) (ap ends_or_none v))

pub returns-in_err-push-clause-err : goal.returns-in_err-push-clause-err
returns-in_err-push-clause-err c = on-err c.from_residual.result _ (λ (q : ScopePort).
    let from = c.args.from in let old = c.args.self.now.ends.entries in let ends = c.push.new.self in let was = c.in-Some.ends.now in
    let new = (c.get_mut.follows.lender ends).entries in
    let v : Some was ≡ lookup (same_port from) old = subst (λ (e : ScopePort → ScopePort → Bool). Some was ≡ lookup (e from) old) port-eq c.in-Some.ensures.value in
    let p : lookup (same_port q) new ≡ cond (same_port from q) (Some ends) (lookup (same_port q) old) =
    subst (λ (e : ScopePort → ScopePort → Bool). lookup (e q) new ≡ cond (e from q) (Some ends) (lookup (e q) old)) port-eq
    (((c.get_mut.follows.holds ends).3 (subst IsSome c.in-Some.ensures.value refl)).0 q) in
    put (same_port from q) (lookup (same_port q) old) (lookup (same_port q) new) ends (ends_in old from) p (c.in_err-push.ensures.err ∙ ap ends_or_none v)
    ∙ kept from q old)

pub returns-clause-added : goal.returns-clause-added
returns-clause-added c = λ q.
    let from = c.args.from in let old = c.args.self.now.ends.entries in let ends = One c.args.to in let new = c.insert.new.self.entries in
    let v : None ≡ lookup (same_port from) old = subst (λ (e : ScopePort → ScopePort → Bool). None ≡ lookup (e from) old) port-eq c.in_default.ensures.value in
    let mid = c.get_mut.follows.lender-at-none in
    let m : lookup (same_port q) new ≡ cond (same_port from q) (Some ends) (lookup (same_port q) mid.entries) =
    subst (λ (e : ScopePort → ScopePort → Bool). lookup (e q) new ≡ cond (e from q) (Some ends) (lookup (e q) mid.entries)) port-eq (c.in_ok-insert.ensures.updates.0 q) in
    let p : lookup (same_port q) new ≡ cond (same_port from q) (Some ends) (lookup (same_port q) old) =
    m ∙ ap (λ t. cond (same_port from q) (Some ends) (lookup (same_port q) t.entries)) c.get_mut.follows.holds-at-none in
    put (same_port from q) (lookup (same_port q) old) (lookup (same_port q) new) ends (ends_in old from ++ c.args.to ∷ []) p
    (ap (λ x. x ++ c.args.to ∷ []) (ap ends_or_none v))
