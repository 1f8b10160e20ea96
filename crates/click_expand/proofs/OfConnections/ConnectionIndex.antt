-- The connections of a scope by their source ports.
use Rattle.std.proofs.Common.{◌≡◌, inl, inr, ℕ, ◌+◌, ◌<◌, zero, suc, List, [], ◌∷◌, ◌++◌, length, get_or, take, Bool, true, false, ◌&&◌, nat_eq, cond, Some, Contains, refl, sym, ap, ◌∙◌, subst, arith}
use Rattle.std.specs.Map.{lookup}
use Rattle.std.specs.List.{slice_get}
use Rattle.std.proofs.lemmas.Bool.{and_parts, eqb-true, cases_Bool}
use Rattle.std.proofs.lemmas.Bool.Decides.{nat_tests}
use Rattle.std.proofs.lemmas.List.{take_more}
use Rattle.std.proofs.lemmas.List.Elements.{Contains-push, Contains-push_cases, Contains-append_left}
use Rattle.click_scopes.specs.declared.written_connections.Owner.{Owner}
use Rattle.click_scopes.specs.declared.written_connections.Owner.TheVariants as owner
use Rattle.click_scopes.specs.declared.written_connections.WrittenConnection.{WrittenConnection}
use Rattle.click_scopes.specs.declared.scopes.Scope.{Scope as ScopeKept}
use Rattle.click_expand.specs.declared.connections.connection_index.ScopePort.{ScopePort}
use Rattle.click_expand.specs.declared.connections.connection_index.PortEnds.{PortEnds}
use Rattle.click_expand.specs.declared.connections.connection_index.ConnectionIndex.{ConnectionIndex}
use Rattle.click_expand.specs.kept.Wiring.{scope_port, same_owner, same_port, IsJoined, ends_or_none, ends_in, IsIndex, AreIndices}

pub owner-exact : (a b : Owner) → same_owner a b ≡ true → a ≡ b
owner-exact owner.Input owner.Input h = refl
owner-exact owner.Output owner.Output h = refl
owner-exact (owner.Element i) (owner.Element j) h = ap (λ n. owner.Element n) (eqb-true i j h)
owner-exact owner.Input owner.Output h = absurd (cc h)
owner-exact owner.Input (owner.Element j) h = absurd (cc h)
owner-exact owner.Output owner.Input h = absurd (cc h)
owner-exact owner.Output (owner.Element j) h = absurd (cc h)
owner-exact (owner.Element i) owner.Input h = absurd (cc h)
owner-exact (owner.Element i) owner.Output h = absurd (cc h)

nat-same : (n : ℕ) → nat_eq n n ≡ true
nat-same n = grind (arith, nat_tests)

pub owner-same : (a : Owner) → same_owner a a ≡ true
owner-same owner.Input = refl
owner-same owner.Output = refl
owner-same (owner.Element i) = nat-same i

pub port-exact : (a b : ScopePort) → same_port a b ≡ true → a ≡ b
port-exact a b h =
    let p = and_parts (same_owner a.owner b.owner) (nat_eq a.number b.number) h in
    ap (λ o. scope_port o a.number) (owner-exact a.owner b.owner p.0) ∙ ap (scope_port b.owner) (eqb-true a.number b.number p.1)

pub port-same : (a : ScopePort) → same_port a a ≡ true
port-same a = ap (λ b. b && nat_eq a.number a.number) (owner-same a.owner) ∙ nat-same a.number

joined-more : (ks : List WrittenConnection) (k : WrittenConnection) (a b : ScopePort) → IsJoined ks a b → IsJoined (ks ++ k ∷ []) a b
joined-more ks k a b h = record { written_connection = h.written_connection; there = Contains-append_left ks (k ∷ []) h.written_connection h.there; from = h.from; to = h.to }

pub index-none : (es : List (ScopePort × PortEnds)) → es ≡ [] → IsIndex [] es
index-none es e = record {
  sound = λ a b h. absurd (let k : Contains [] b = subst (λ x. Contains (ends_in x a) b) e h in omega (arith, k.1));
  complete = λ a b h. absurd (omega (arith, h.there.1));
}

module _ (ks : List WrittenConnection) (k : WrittenConnection) (old new : List (ScopePort × PortEnds)) where
  abbrev source : ScopePort
  source = scope_port k.from.owner k.out_port

  abbrev target : ScopePort
  target = scope_port k.to.owner k.in_port

  module _ (h : IsIndex ks old) (changed : (q : ScopePort) → ends_in new q ≡ cond (same_port source q) (ends_in old source ++ target ∷ []) (ends_in old q)) where
    sound : (a b : ScopePort) → Contains (ends_in new a) b → IsJoined (ks ++ k ∷ []) a b
    sound a b m =
        elim (cases_Bool (same_port source a)) [
          | inl t ↦
              (let n : Contains (ends_in old source ++ target ∷ []) b = subst (λ x. Contains x b) (changed a ∙ ap (λ t. cond t (ends_in old source ++ target ∷ []) (ends_in old a)) t) m in
              let e : source ≡ a = port-exact source a t in
              elim (Contains-push_cases (ends_in old source) target b n) [
                | inl o ↦ subst (λ x. IsJoined (ks ++ k ∷ []) x b) e (joined-more ks k source b (h.sound source b o))
                | inr s ↦ record { written_connection = k; there = Contains-push ks k; from = sym e; to = sym s }
              ])
          | inr f ↦ joined-more ks k a b (h.sound a b (subst (λ x. Contains x b) (changed a ∙ ap (λ t. cond t (ends_in old source ++ target ∷ []) (ends_in old a)) f) m))
        ]

    kept : (a b : ScopePort) → Contains (ends_in old a) b → Contains (ends_in new a) b
    kept a b m =
        elim (cases_Bool (same_port source a)) [
          | inl t ↦
              subst (λ x. Contains x b) (sym (changed a ∙ ap (λ t. cond t (ends_in old source ++ target ∷ []) (ends_in old a)) t))
              (Contains-append_left (ends_in old source) (target ∷ []) b (subst (λ x. Contains (ends_in old x) b) (sym (port-exact source a t)) m))
          | inr f ↦ subst (λ x. Contains x b) (sym (changed a ∙ ap (λ t. cond t (ends_in old source ++ target ∷ []) (ends_in old a)) f)) m
        ]

    complete : (a b : ScopePort) → IsJoined (ks ++ k ∷ []) a b → Contains (ends_in new a) b
    complete a b j =
        elim (Contains-push_cases ks k j.written_connection j.there) [
          | inl o ↦ kept a b (h.complete a b (record { written_connection = j.written_connection; there = o; from = j.from; to = j.to }))
          | inr s ↦
              (let p : a ≡ source = j.from ∙ ap (λ (x : WrittenConnection). scope_port x.from.owner x.out_port) (sym s) in
              let q : b ≡ target = j.to ∙ ap (λ (x : WrittenConnection). scope_port x.to.owner x.in_port) (sym s) in
              subst (λ x. Contains (ends_in new x) b) (sym p) (subst (λ x. Contains (ends_in new source) x) (sym q)
              (subst (λ x. Contains x target) (sym (changed source ∙ ap (λ t. cond t (ends_in old source ++ target ∷ []) (ends_in old source)) (port-same source)))
              (Contains-push (ends_in old source) target))))
        ]

    pub index-push : IsIndex (ks ++ k ∷ []) new
    index-push = record { sound = sound; complete = complete }

pub index-more : (ks : List WrittenConnection) (i : ℕ) (k d : WrittenConnection) (old new : List (ScopePort × PortEnds)) → i < length ks → k ≡ get_or ks i d → IsIndex (take i ks) old →
    ((q : ScopePort) → ends_in new q ≡ cond (same_port (scope_port k.from.owner k.out_port) q) (ends_in old (scope_port k.from.owner k.out_port) ++ scope_port k.to.owner k.in_port ∷ []) (ends_in old q)) →
    IsIndex (take (i + 1) ks) new
index-more ks i k d old new l is h changed =
    subst (λ x. IsIndex x new) (ap (λ x. take i ks ++ x ∷ []) is ∙ sym (take_more ks i d l)) (pushed (take i ks) k old new h changed)
  where
    pushed : (ks : List WrittenConnection) (k : WrittenConnection) (old new : List (ScopePort × PortEnds)) → IsIndex ks old →
        ((q : ScopePort) → ends_in new q ≡ cond (same_port (scope_port k.from.owner k.out_port) q) (ends_in old (scope_port k.from.owner k.out_port) ++ scope_port k.to.owner k.in_port ∷ []) (ends_in old q)) → IsIndex (ks ++ k ∷ []) new
    pushed ks k old new h changed = index-push ks k old new h changed

pub indices-push : (all : List ScopeKept) (xs : List ConnectionIndex) (k : ScopeKept) (x : ConnectionIndex) → AreIndices all xs → IsIndex k.connections x.ends.entries → AreIndices (all ++ k ∷ []) (xs ++ x ∷ [])
indices-push [] [] k x h i = (i, tt)
indices-push [] (y ∷ xs) k x h i = absurd h
indices-push (j ∷ all) [] k x h i = absurd h
indices-push (j ∷ all) (y ∷ xs) k x h i = (h.0, indices-push all xs k x h.1 i)

pub indices-more : (all : List ScopeKept) (i : ℕ) (xs new : List ConnectionIndex) (k d : ScopeKept) (x : ConnectionIndex) → i < length all → k ≡ get_or all i d → AreIndices (take i all) xs → IsIndex k.connections x.ends.entries →
    new ≡ xs ++ x ∷ [] → AreIndices (take (i + 1) all) new
indices-more all i xs new k d x l is h q e =
    subst (AreIndices (take (i + 1) all)) (sym e)
    (subst (λ a. AreIndices a (xs ++ x ∷ [])) (ap (λ y. take i all ++ y ∷ []) is ∙ sym (take_more all i d l)) (indices-push (take i all) xs k x h q))

-- the index of a scope, and the scope of an index
pub index-at : (all : List ScopeKept) (xs : List ConnectionIndex) (i : ℕ) (k : ScopeKept) → AreIndices all xs → slice_get all i ≡ Some k →
    (x : ConnectionIndex) × (slice_get xs i ≡ Some x) × IsIndex k.connections x.ends.entries
index-at [] xs i k h e = absurd (cc e)
index-at (j ∷ all) [] i k h e = absurd h
index-at (j ∷ all) (x ∷ xs) zero k h e = (x, refl, subst (λ (s : ScopeKept). IsIndex s.connections x.ends.entries) (some_same e) h.0)
  where
    some_same : {X : Type 0} {x y : X} → Some x ≡ Some y → x ≡ y
    some_same h = cc h
index-at (j ∷ all) (x ∷ xs) (suc i) k h e = index-at all xs i k h.1 e

-- a port with ends is one of the keys
pub key-at : (es : List (ScopePort × PortEnds)) (a b : ScopePort) → Contains (ends_in es a) b → (i : ℕ) × (v : PortEnds) × (slice_get es i ≡ Some (a, v))
key-at [] a b h = absurd (omega (arith, h.1))
key-at (e ∷ es) a b h = by (same_port a e.0) refl (key-at es a b) h
  where
    by : (t : Bool) → same_port a e.0 ≡ t → (Contains (ends_in es a) b → (i : ℕ) × (v : PortEnds) × (slice_get es i ≡ Some (a, v))) →
        Contains (ends_or_none (cond t (Some e.1) (lookup (same_port a) es))) b → (i : ℕ) × (v : PortEnds) × (slice_get (e ∷ es) i ≡ Some (a, v))
    by true t k h = (0, e.1, ap (λ x. Some (x, e.1)) (sym (port-exact a e.0 t)))
    by false t k h = let r = k h in (suc r.0, r.1, r.2)
