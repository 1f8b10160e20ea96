-- Stand-ins for the ports that connections lead to, and the index of a scope that has them.
use Rattle.std.proofs.Common.{◌≡◌, ◌⊎◌, inl, inr, ℕ, zero, suc, ◌+◌, ◌<◌, ◌≤◌, List, [], ◌∷◌, ◌++◌, length, get_or, take, Bool, false, cond, Option, Some, None, Contains, refl, sym, ap, ◌∙◌, subst, arith}
use Rattle.std.specs.Map.{lookup}
use Rattle.std.specs.List.{slice_get}
use Rattle.std.specs.Option.{is_some}
use Rattle.std.proofs.lemmas.Bool.{cases_Bool, cases_order}
use Rattle.std.proofs.lemmas.List.{take_more}
use Rattle.std.proofs.lemmas.Option.{slice_get_within}
use Rattle.std.proofs.lemmas.List.Elements.{Contains-push, Contains-push_cases, Contains-append_left}
use Rattle.indexmap.specs.IndexSet.{insert_key}
use Rattle.indexmap.proofs.CallerLemmas.{Contains-insert_key}
use Rattle.click_scopes.specs.declared.scope_elements.ScopeElement.{ScopeElement as ScopeElementKept}
use Rattle.click_scopes.specs.declared.written_connections.Owner.TheVariants as owner
use Rattle.click_scopes.specs.kept.Lookups.{elements_by, scope_element_body, scope_body, body_at}
use Rattle.click_scopes.specs.declared.scopes.Scope.{Scope as ScopeKept}
use Rattle.click_expand.specs.declared.connections.connection_index.ScopePort.{ScopePort}
use Rattle.click_expand.specs.declared.connections.connection_index.PortEnds.{PortEnds}
use Rattle.click_expand.specs.kept.Wiring.{scope_port, same_port, ends_of, ends_or_none, ends_in, Gains}
use Rattle.click_expand.specs.kept.Passthrough.{LeadsThrough, StandsIn, same, alike, AreStoodFor, AreEndsOf}
use Rattle.click_expand.specs.contracts.connections.connection_index.ScopePortPartialEq.TheImpl as ports
use Rattle.click_expand.proofs.OfConnections.Chains.{some_same}
use Rattle.click_expand.proofs.OfConnections.PortEquality.{port-eq}
use Rattle.click_expand.proofs.OfConnections.ConnectionIndex.{port-exact, port-same, key-at}
use Rattle.click_expand.proofs.OfConnections.PortSearch.{gains-insert, gains-kept, gains-cases}

-- a map after an insertion, by the test of the definitions
pub changed-by : (old new : List (ScopePort × PortEnds)) (p : ScopePort) (v : PortEnds) → ((q : ScopePort) → lookup (ports.ghosts.eq q) new ≡ cond (ports.ghosts.eq p q) (Some v) (lookup (ports.ghosts.eq q) old)) →
    (q : ScopePort) → lookup (same_port q) new ≡ cond (same_port p q) (Some v) (lookup (same_port q) old)
changed-by old new p v h q = subst (λ (e : ScopePort → ScopePort → Bool). lookup (e q) new ≡ cond (e p q) (Some v) (lookup (e q) old)) port-eq (h q)

-- the ends of a port after an insertion: the new ones, or the old ones
pub changed-at : (old new : List (ScopePort × PortEnds)) (p : ScopePort) (v : PortEnds) → ((q : ScopePort) → lookup (same_port q) new ≡ cond (same_port p q) (Some v) (lookup (same_port q) old)) → (q : ScopePort) →
    ((q ≡ p) × (ends_in new q ≡ ends_of v)) ⊎ (ends_in new q ≡ ends_in old q)
changed-at old new p v changed q =
    elim (cases_Bool (same_port p q)) [
      | inl t ↦ inl (sym (port-exact p q t), ap ends_or_none (changed q ∙ ap (λ b. cond b (Some v) (lookup (same_port q) old)) t))
      | inr f ↦ inr (ap ends_or_none (changed q ∙ ap (λ b. cond b (Some v) (lookup (same_port q) old)) f))
    ]

pub changed-here : (old new : List (ScopePort × PortEnds)) (p : ScopePort) (v : PortEnds) → ((q : ScopePort) → lookup (same_port q) new ≡ cond (same_port p q) (Some v) (lookup (same_port q) old)) → ends_in new p ≡ ends_of v
changed-here old new p v changed = ap ends_or_none (changed p ∙ ap (λ b. cond b (Some v) (lookup (same_port p) old)) (port-same p))

module _ (ends : ℕ → ScopePort → List ScopePort) (body : ℕ → ℕ → Option ℕ) (short : ℕ → ScopePort → List ScopePort) (s : ℕ) where
  pub stands-number : (p : ScopePort) (i k inner : ℕ) → p.owner ≡ owner.Element i → body s i ≡ Some inner → (k ≡ p.number) ⊎ LeadsThrough ends body inner p.number (short inner (scope_port owner.Input k)) →
      StandsIn ends body short s p (scope_port p.owner k)
  stands-number p i k inner is there h =
      elim h [
        | inl e ↦ subst (λ n. StandsIn ends body short s p (scope_port p.owner n)) (sym e) (same p)
        | inr l ↦ subst (λ o. StandsIn ends body short s (scope_port o p.number) (scope_port o k)) (sym is) (alike i p.number k inner there l)
      ]

  pub stood-none : AreStoodFor ends body short s [] []
  stood-none = record { each = λ p h. absurd (omega (arith, h.1)); back = λ q h. absurd (omega (arith, h.1)) }

  stood-push : (ps qs new : List ScopePort) (p q : ScopePort) → AreStoodFor ends body short s ps qs → StandsIn ends body short s p q → new ≡ insert_key same_port qs q → AreStoodFor ends body short s (ps ++ p ∷ []) new
  stood-push ps qs new p q h st e =
      let g : Gains (λ x. x ≡ q) qs new = gains-insert (λ x. x ≡ q) same_port qs new q e refl in
      record {
        each = λ x m. elim (Contains-push_cases ps p x m) [
          | inl o ↦ (let r = h.each x o in (r.0, gains-kept (λ x. x ≡ q) qs new g r.0 r.1, r.2))
          | inr t ↦ (q, subst (λ l. Contains l q) (sym e) (Contains-insert_key same_port port-exact qs q), subst (λ y. StandsIn ends body short s y q) t st)
        ];
        back = λ x m. elim (gains-cases (λ x. x ≡ q) qs new g x m) [
          | inl o ↦ (let r = h.back x o in (r.0, Contains-append_left ps (p ∷ []) r.0 r.1, r.2))
          | inr t ↦ (p, Contains-push ps p, subst (StandsIn ends body short s p) (sym t) st)
        ];
      }

  pub stood-next : (ps qs new : List ScopePort) (i : ℕ) (p d q : ScopePort) → i < length ps → p ≡ get_or ps i d → AreStoodFor ends body short s (take i ps) qs → StandsIn ends body short s p q →
      new ≡ insert_key same_port qs q → AreStoodFor ends body short s (take (i + 1) ps) new
  stood-next ps qs new i p d q l is h st e =
      subst (λ xs. AreStoodFor ends body short s xs new) (ap (λ x. take i ps ++ x ∷ []) is ∙ sym (take_more ps i d l)) (stood-push (take i ps) qs new p q h st e)

  module _ (raw : List (ScopePort × PortEnds)) where
    -- The ports that are keys of the old index, at indices below i, have stand-ins in the new one.
    -- The other ports have none yet.
    pub record Reduces (i : ℕ) (new : List (ScopePort × PortEnds)) : Type 0 where
      pub each : (q : ScopePort) → (ends_in new q ≡ []) ⊎ AreStoodFor ends body short s (ends_in raw q) (ends_in new q)
      pub all : (j : ℕ) (q : ScopePort) (v : PortEnds) → j < i → slice_get raw j ≡ Some (q, v) → AreStoodFor ends body short s (ends_in raw q) (ends_in new q)

    module _ (i : ℕ) (old new : List (ScopePort × PortEnds)) (p : ScopePort) (v w : PortEnds) (there : slice_get raw i ≡ Some (p, w)) (stood : AreStoodFor ends body short s (ends_in raw p) (ends_of v))
        (changed : (q : ScopePort) → lookup (same_port q) new ≡ cond (same_port p q) (Some v) (lookup (same_port q) old)) (h : Reduces i old) where
      put : (q : ScopePort) → q ≡ p → ends_in new q ≡ ends_of v → AreStoodFor ends body short s (ends_in raw q) (ends_in new q)
      put q e is = subst (AreStoodFor ends body short s (ends_in raw q)) (sym is) (subst (λ x. AreStoodFor ends body short s (ends_in raw x) (ends_of v)) (sym e) stood)

      kept : (q : ScopePort) → ends_in new q ≡ ends_in old q → AreStoodFor ends body short s (ends_in raw q) (ends_in old q) → AreStoodFor ends body short s (ends_in raw q) (ends_in new q)
      kept q is a = subst (AreStoodFor ends body short s (ends_in raw q)) (sym is) a

      each-more : (q : ScopePort) → (ends_in new q ≡ []) ⊎ AreStoodFor ends body short s (ends_in raw q) (ends_in new q)
      each-more q =
          elim (changed-at old new p v changed q) [
            | inl c ↦ inr (put q c.0 c.1)
            | inr c ↦ elim (h.each q) [ inl e ↦ inl (c ∙ e) | inr a ↦ inr (kept q c a) ]
          ]

      all-more : (j : ℕ) (q : ScopePort) (u : PortEnds) → j < i + 1 → slice_get raw j ≡ Some (q, u) → AreStoodFor ends body short s (ends_in raw q) (ends_in new q)
      all-more j q u l at =
          elim (changed-at old new p v changed q) [
            | inl c ↦ put q c.0 c.1
            | inr c ↦ elim (cases_order j i) [
              | inl e ↦
                  (let t : (q, u) ≡ (p, w) = some_same (sym at ∙ ap (slice_get raw) e ∙ there) in
                  let o : q ≡ p = ap (λ x. x.0) t in
                  put q o (ap (ends_in new) o ∙ changed-here old new p v changed))
              | inr (inl m) ↦ kept q c (h.all j q u m at)
              | inr (inr m) ↦ absurd (omega (arith, l, m))
            ]
          ]

      pub reduces-more : Reduces (i + 1) new
      reduces-more = record { each = each-more; all = all-more }

    pub reduces-past : (i : ℕ) (new : List (ScopePort × PortEnds)) → None ≡ slice_get raw i → Reduces i new → Reduces (i + 1) new
    reduces-past i new none h = record {
      each = h.each;
      all = λ j q v l at. elim (cases_order j i) [
        | inl e ↦ absurd (let t = none ∙ sym (ap (slice_get raw) e) ∙ at in cc t)
        | inr (inl m) ↦ h.all j q v m at
        | inr (inr m) ↦ absurd (omega (arith, l, m))
      ];
    }

    module _ (i : ℕ) (new : List (ScopePort × PortEnds)) (done : length raw ≤ i) (h : Reduces i new) where
      at-port : (a : ScopePort) → AreStoodFor ends body short s (ends_in raw a) (ends_in new a)
      at-port a = elim (h.each a) [ inl e ↦ by e (ends_in raw a) refl | inr st ↦ st ]
        where
          by : ends_in new a ≡ [] → (ps : List ScopePort) → ends_in raw a ≡ ps → AreStoodFor ends body short s (ends_in raw a) (ends_in new a)
          by e [] r = subst (AreStoodFor ends body short s (ends_in raw a)) (sym e) (subst (λ x. AreStoodFor ends body short s x []) (sym r) stood-none)
          by e (b ∷ bs) r =
              let k = key-at raw a b (subst (λ x. Contains x b) (sym r) (0, omega arith, refl)) in
              let l = slice_get_within raw k.0 (a, k.1) k.2 in
              h.all k.0 a k.1 (omega (arith, l, done)) k.2

      pub reduces-all : ((a : ScopePort) → ends s a ≡ ends_in raw a) → AreEndsOf ends body short s (ends_in new)
      reduces-all is a = subst (λ x. AreStoodFor ends body short s x (ends_in new a)) (sym (is a)) (at-port a)

-- none of the first n elements of a scope is a compound
abbrev pub NoBodies : (ℕ → Option ℕ) → ℕ → Type 0
NoBodies body n = (i : ℕ) → i < n → body i ≡ None

pub no-bodies-more : (body : ℕ → Option ℕ) (n : ℕ) → is_some (body n) ≡ false → NoBodies body n → NoBodies body (n + 1)
no-bodies-more body n e h i l =
    elim (cases_order i n) [
      | inl q ↦ ap body q ∙ is-none (body n) e
      | inr (inl m) ↦ h i m
      | inr (inr m) ↦ absurd (omega (arith, l, m))
    ]
  where
    is-none : (o : Option ℕ) → is_some o ≡ false → o ≡ None
    is-none None k = refl
    is-none (Some b) k = absurd (cc k)

beyond : (ls : List ScopeElementKept) (i : ℕ) → length ls ≤ i → slice_get ls i ≡ None
beyond [] i l = refl
beyond (k ∷ ls) zero l = absurd (omega (arith, l))
beyond (k ∷ ls) (suc i) l = beyond ls i (omega (arith, l))

no-body-past : (o : Option ScopeKept) (i : ℕ) → length (elements_by o) ≤ i → scope_body i o ≡ None
no-body-past None i l = refl
no-body-past (Some k) i l = ap scope_element_body (beyond k.elements.items i l)

pub no-bodies-all : (scopes : List ScopeKept) (s n : ℕ) → length (elements_by (slice_get scopes s)) ≤ n → NoBodies (body_at scopes s) n → (i : ℕ) → body_at scopes s i ≡ None
no-bodies-all scopes s n l h i =
    elim (cases_order i n) [
      | inl q ↦ no-body-past (slice_get scopes s) i (omega (arith, l, q))
      | inr (inl m) ↦ h i m
      | inr (inr m) ↦ no-body-past (slice_get scopes s) i (omega (arith, l, m))
    ]

-- each port may stand in for itself
pub stood-same : (ends : ℕ → ScopePort → List ScopePort) (body : ℕ → ℕ → Option ℕ) (short : ℕ → ScopePort → List ScopePort) (s : ℕ) (ps qs : List ScopePort) → ps ≡ qs → AreStoodFor ends body short s ps qs
stood-same ends body short s ps qs e = record {
  each = λ p h. (p, subst (λ z. Contains z p) e h, same p);
  back = λ q h. (q, subst (λ z. Contains z q) (sym e) h, same q);
}
