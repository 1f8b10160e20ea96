-- A search over the ports of instances, one step of the scopes' indices after another.
use Rattle.std.proofs.Common.{◌≡◌, ◌⊎◌, inl, inr, ℕ, ◌+◌, ◌<◌, ◌≤◌, zero, suc, List, [], ◌∷◌, ◌++◌, length, get_or, take, map, Bool, true, false, nat_eq, cond, Some, None, Contains, refl, sym, ap, ◌∙◌, subst, append_assoc, append-nil, arith}
use Rattle.std.specs.List.{slice_get, list_any}
use Rattle.std.proofs.lemmas.Bool.{and_parts, eqb-true, cases_order}
use Rattle.std.proofs.lemmas.List.{take_more, map_push, length-append}
use Rattle.std.proofs.lemmas.Option.{slice_get_within, get_or_from_slice_get, slice_get-get_or}
use Rattle.std.proofs.lemmas.List.Elements.{Contains-append_left, Contains-append_right, Contains-append_cases}
use Rattle.indexmap.specs.IndexSet.{insert_key}
use Rattle.indexmap.proofs.CallerLemmas.{Contains-insert_key}
use Rattle.click_expand.specs.declared.instances.tree.Instance.{Instance}
use Rattle.click_expand.specs.declared.connections.connection_index.ScopePort.{ScopePort}
use Rattle.click_expand.specs.declared.connections.connection_index.InstancePort.{InstancePort}
use Rattle.click_expand.specs.declared.connections.connection_index.FlatInput.{FlatInput}
use Rattle.click_expand.specs.declared.connections.connection_index.Reached.{Reached}
use Rattle.click_expand.specs.declared.connections.connection_index.Reached.TheVariants as next
use Rattle.click_expand.specs.declared.connections.connection_index.ConnectionIndex.{ConnectionIndex}
use Rattle.click_expand.specs.declared.flat.Connection.{Connection}
use Rattle.click_expand.specs.kept.Wiring.{instance_port, same_start, same_port, reached_by, all_reached, ends_in, StepsTo, Arrives, at_once, after_connection, connection, IsFrom, Gains, HasAll, IsOn, IsConnectionInto, Takes, IsAtOnce, Visits}
use Rattle.click_expand.proofs.OfConnections.ConnectionIndex.{port-exact}
use Rattle.click_scopes.proofs.OfLists.StatementTables.{slice_get-front}
use Rattle.click_expand.proofs.OfConnections.ConnectionOrder.{same, exact}

some_same : {X : Type 0} {x y : X} → Some x ≡ Some y → x ≡ y
some_same h = cc h

contains-single : {X : Type 0} (x y : X) → Contains (x ∷ []) y → x ≡ y
contains-single x y (zero, l, e) = e
contains-single x y (suc k, l, e) = absurd (omega (arith, l))

-- the index of an item
pub contains-at : {X : Type 0} (xs : List X) (x : X) → Contains xs x → (i : ℕ) × (slice_get xs i ≡ Some x)
contains-at xs x (k, l, e) = (k, slice_get-get_or xs k x l ∙ ap (λ y. Some y) e)

pub at-contains : {X : Type 0} (xs : List X) (i : ℕ) (x : X) → slice_get xs i ≡ Some x → Contains xs x
at-contains xs i x h = (i, slice_get_within xs i x h, get_or_from_slice_get xs i x x h)

contains-map : {X Y : Type 0} (f : X → Y) (xs : List X) (y : Y) → Contains (map f xs) y → (x : X) × Contains xs x × (f x ≡ y)
contains-map f [] y h = absurd (omega (arith, h.1))
contains-map f (x ∷ xs) y (zero, l, e) = (x, (0, omega arith, refl), e)
contains-map f (x ∷ xs) y (suc k, l, e) =
    let r = contains-map f xs y (k, omega (arith, l), e) in (r.0, Contains-append_right (x ∷ []) xs r.0 r.1, r.2)

map-contains : {X Y : Type 0} (f : X → Y) (xs : List X) (x : X) → Contains xs x → Contains (map f xs) (f x)
map-contains f [] x h = absurd (omega (arith, h.1))
map-contains f (z ∷ xs) x (zero, l, e) = (0, omega arith, ap f e)
map-contains f (z ∷ xs) x (suc k, l, e) = Contains-append_right (f z ∷ []) (map f xs) (f x) (map-contains f xs x (k, omega (arith, l), e))

module _ {X : Type 0} (P : X → Type 0) where
  pub gains-none : (xs : List X) → Gains P xs xs
  gains-none xs = record { more = []; is = simp append-nil; each = λ x h. absurd (omega (arith, h.1)) }

  pub gains-trans : (a b d : List X) → Gains P a b → Gains P b d → Gains P a d
  gains-trans a b d g h = record {
    more = g.more ++ h.more;
    is = h.is ∙ ap (λ x. x ++ h.more) g.is ∙ append_assoc a g.more h.more;
    each = λ x m. elim (Contains-append_cases g.more h.more x m) [ inl o ↦ g.each x o | inr o ↦ h.each x o ];
  }

  pub gains-kept : (a b : List X) → Gains P a b → (x : X) → Contains a x → Contains b x
  gains-kept a b g x h = subst (λ l. Contains l x) (sym g.is) (Contains-append_left a g.more x h)

  pub gains-cases : (a b : List X) → Gains P a b → (x : X) → Contains b x → Contains a x ⊎ P x
  gains-cases a b g x h = elim (Contains-append_cases a g.more x (subst (λ l. Contains l x) g.is h)) [ inl o ↦ inl o | inr o ↦ inr (g.each x o) ]

  pub gains-length : (a b : List X) → Gains P a b → length a ≤ length b
  gains-length a b g = omega (arith, ap length g.is, length-append a g.more)

  pub gains-at : (a b : List X) → Gains P a b → (i : ℕ) → i < length a → slice_get b i ≡ slice_get a i
  gains-at a b g i l = ap (λ l. slice_get l i) g.is ∙ slice_get-front a g.more i l

  pub gains-insert : (eq : X → X → Bool) (old new : List X) (x : X) → new ≡ insert_key eq old x → P x → Gains P old new
  gains-insert eq old new x e p = by (list_any (eq x) old) (e ∙ refl)
    where
      by : (b : Bool) → new ≡ cond b old (old ++ x ∷ []) → Gains P old new
      by true e = subst (Gains P old) (sym e) (gains-none old)
      by false e = record { more = x ∷ []; is = e; each = λ y h. subst P (contains-single x y h) p }

pub gains-weaken : {X : Type 0} (P Q : X → Type 0) (a b : List X) → ((x : X) → P x → Q x) → Gains P a b → Gains Q a b
gains-weaken P Q a b f g = record { more = g.more; is = g.is; each = λ x h. f x (g.each x h) }

start-exact : (a b : InstancePort) → same_start a b ≡ true → a ≡ b
start-exact a b h =
    let p = and_parts (nat_eq a.within b.within) (same_port a.port b.port) h in
    ap (λ u. instance_port u a.port) (eqb-true a.within b.within p.0) ∙ ap (instance_port b.within) (port-exact a.port b.port p.1)

module _ (primitive_element number : ℕ) where
  pub takes-none : (seen : List InstancePort) (found : List Connection) → Takes primitive_element number [] seen seen found found
  takes-none seen found = record {
    seen = gains-none (IsOn []) seen;
    seen_all = λ s h. absurd (omega (arith, h.1));
    found = gains-none (IsConnectionInto primitive_element number []) found;
    found_all = λ k h. absurd (omega (arith, h.1.1));
  }

  pub takes-nothing : (seen : List InstancePort) (found : List Connection) → Takes primitive_element number (next.Nothing ∷ []) seen seen found found
  takes-nothing seen found = record {
    seen = gains-none (IsOn (next.Nothing ∷ [])) seen;
    seen_all = λ s h. absurd (let e = contains-single next.Nothing (next.Start s) h in cc e);
    found = gains-none (IsConnectionInto primitive_element number (next.Nothing ∷ [])) found;
    found_all = λ k h. absurd (let e = contains-single next.Nothing (next.PrimitiveElement h.0) h.1 in cc e);
  }

  pub takes-start : (s : InstancePort) (seen new : List InstancePort) (found : List Connection) → new ≡ insert_key same_start seen s → Takes primitive_element number (next.Start s ∷ []) seen new found found
  takes-start s seen new found e = record {
    seen = gains-insert (IsOn (next.Start s ∷ [])) same_start seen new s e (0, omega arith, refl);
    seen_all = λ t h. (let same : s ≡ t = (let e = contains-single (next.Start s) (next.Start t) h in cc e) in
        subst (Contains new) same (subst (λ l. Contains l s) (sym e) (Contains-insert_key same_start start-exact seen s)));
    found = gains-none (IsConnectionInto primitive_element number (next.Start s ∷ [])) found;
    found_all = λ k h. absurd (let e = contains-single (next.Start s) (next.PrimitiveElement h.0) h.1 in cc e);
  }

  pub takes-primitive_element : (i : FlatInput) (seen : List InstancePort) (found new : List Connection) → new ≡ insert_key same found (connection primitive_element number i) → Takes primitive_element number (next.PrimitiveElement i ∷ []) seen seen found new
  takes-primitive_element i seen found new e = record {
    seen = gains-none (IsOn (next.PrimitiveElement i ∷ [])) seen;
    seen_all = λ t h. absurd (let e = contains-single (next.PrimitiveElement i) (next.Start t) h in cc e);
    found = gains-insert (IsConnectionInto primitive_element number (next.PrimitiveElement i ∷ [])) same found new (connection primitive_element number i) e (i, (0, omega arith, refl), refl);
    found_all = λ k h. (let same_input : i ≡ h.0 = (let e = contains-single (next.PrimitiveElement i) (next.PrimitiveElement h.0) h.1 in cc e) in
        subst (Contains new) (ap (connection primitive_element number) same_input ∙ sym h.2)
        (subst (λ l. Contains l (connection primitive_element number i)) (sym e) (Contains-insert_key same exact found (connection primitive_element number i))));
  }

  end-left : (ns ms : List Reached) (k : Connection) → IsConnectionInto primitive_element number ns k → IsConnectionInto primitive_element number (ns ++ ms) k
  end-left ns ms k h = (h.0, Contains-append_left ns ms (next.PrimitiveElement h.0) h.1, h.2)

  end-right : (ns ms : List Reached) (k : Connection) → IsConnectionInto primitive_element number ms k → IsConnectionInto primitive_element number (ns ++ ms) k
  end-right ns ms k h = (h.0, Contains-append_right ns ms (next.PrimitiveElement h.0) h.1, h.2)

  pub takes-more : (ns ms : List Reached) (a b d : List InstancePort) (f g h : List Connection) → Takes primitive_element number ns a b f g → Takes primitive_element number ms b d g h → Takes primitive_element number (ns ++ ms) a d f h
  takes-more ns ms a b d f g h v w = record {
    seen = gains-trans (IsOn (ns ++ ms)) a b d
        (gains-weaken (IsOn ns) (IsOn (ns ++ ms)) a b (λ s m. Contains-append_left ns ms (next.Start s) m) v.seen)
        (gains-weaken (IsOn ms) (IsOn (ns ++ ms)) b d (λ s m. Contains-append_right ns ms (next.Start s) m) w.seen);
    seen_all = λ s m. elim (Contains-append_cases ns ms (next.Start s) m) [
      | inl o ↦ gains-kept (IsOn ms) b d w.seen s (v.seen_all s o)
      | inr o ↦ w.seen_all s o
    ];
    found = gains-trans (IsConnectionInto primitive_element number (ns ++ ms)) f g h
        (gains-weaken (IsConnectionInto primitive_element number ns) (IsConnectionInto primitive_element number (ns ++ ms)) f g (end-left ns ms) v.found)
        (gains-weaken (IsConnectionInto primitive_element number ms) (IsConnectionInto primitive_element number (ns ++ ms)) g h (end-right ns ms) w.found);
    found_all = λ k m. elim (Contains-append_cases ns ms (next.PrimitiveElement m.0) m.1) [
      | inl o ↦ gains-kept (IsConnectionInto primitive_element number ms) g h w.found k (v.found_all k (m.0, o, m.2))
      | inr o ↦ w.found_all k (m.0, o, m.2)
    ];
  }

  pub takes-next : (one : Instance) (ends : List ScopePort) (i : ℕ) (e d : ScopePort) (a b x : List InstancePort) (f g h : List Connection) → i < length ends → e ≡ get_or ends i d →
      Takes primitive_element number (all_reached one (take i ends)) a b f g → Takes primitive_element number (reached_by one e.owner e.number ∷ []) b x g h → Takes primitive_element number (all_reached one (take (i + 1) ends)) a x f h
  takes-next one ends i e d a b x f g h l is v w =
      subst (λ (ns : List Reached). Takes primitive_element number ns a x f h)
      (ap (λ (y : ScopePort). all_reached one (take i ends) ++ reached_by one y.owner y.number ∷ []) is
      ∙ sym (map_push (λ (y : ScopePort). reached_by one y.owner y.number) (take i ends) (get_or ends i d))
      ∙ ap (all_reached one) (sym (take_more ends i d l)))
      (takes-more (all_reached one (take i ends)) (reached_by one e.owner e.number ∷ []) a b x f g h v w)

module _ (instances : List Instance) (indices : List ConnectionIndex) where
  module _ (s : InstancePort) (one : Instance) (index : ConnectionIndex) (there : slice_get instances s.within ≡ Some one) (index_there : slice_get indices one.scope ≡ Some index) where
    step-of : (n : Reached) → Contains (all_reached one (ends_in index.ends.entries s.port)) n → StepsTo instances indices s n
    step-of n h =
        let r = contains-map (λ (e : ScopePort). reached_by one e.owner e.number) (ends_in index.ends.entries s.port) n h in
        record { used = one; instance_is_there = there; index = index; index_there = index_there; to = r.0; joined = r.1; is = sym r.2 }

    of-step : (n : Reached) → StepsTo instances indices s n → Contains (all_reached one (ends_in index.ends.entries s.port)) n
    of-step n h =
        let p : h.used ≡ one = some_same (sym h.instance_is_there ∙ there) in
        let q : h.index ≡ index = some_same (sym h.index_there ∙ ap (λ (u : Instance). slice_get indices u.scope) p ∙ index_there) in
        let m : Contains (ends_in index.ends.entries s.port) h.to = subst (λ (x : ConnectionIndex). Contains (ends_in x.ends.entries s.port) h.to) q h.joined in
        subst (Contains (all_reached one (ends_in index.ends.entries s.port))) (ap (λ u. reached_by u h.to.owner h.to.number) (sym p) ∙ sym h.is)
        (map-contains (λ (e : ScopePort). reached_by one e.owner e.number) (ends_in index.ends.entries s.port) h.to m)

    pub visits : (primitive_element number : ℕ) (a b : List InstancePort) (f g : List Connection) → Takes primitive_element number (all_reached one (ends_in index.ends.entries s.port)) a b f g → Visits instances indices s primitive_element number a b f g
    visits primitive_element number a b f g t = record {
      seen = gains-weaken (IsOn (all_reached one (ends_in index.ends.entries s.port))) (λ u. StepsTo instances indices s (next.Start u)) a b (λ u h. step-of (next.Start u) h) t.seen;
      seen_all = λ u h. t.seen_all u (of-step (next.Start u) h);
      found = gains-weaken (IsConnectionInto primitive_element number (all_reached one (ends_in index.ends.entries s.port))) (IsAtOnce instances indices s primitive_element number) f g (λ k h. (h.0, step-of (next.PrimitiveElement h.0) h.1, h.2)) t.found;
      found_all = λ k h. t.found_all k (h.0, of-step (next.PrimitiveElement h.0) h.1, h.2);
    }

  pub visits-none : (s : InstancePort) (primitive_element number : ℕ) (a : List InstancePort) (f : List Connection) → ((n : Reached) → StepsTo instances indices s n → ⊥) → Visits instances indices s primitive_element number a a f f
  visits-none s primitive_element number a f none = record {
    seen = gains-none (λ u. StepsTo instances indices s (next.Start u)) a;
    seen_all = λ u h. absurd (none (next.Start u) h);
    found = gains-none (IsAtOnce instances indices s primitive_element number) f;
    found_all = λ k h. absurd (none (next.PrimitiveElement h.0) h.1);
  }

  pub no-use : (s : InstancePort) → slice_get instances s.within ≡ None → (n : Reached) → StepsTo instances indices s n → ⊥
  no-use s e n h = let x = sym e ∙ h.instance_is_there in cc x

  pub no-index : (s : InstancePort) (one : Instance) → slice_get instances s.within ≡ Some one → slice_get indices one.scope ≡ None → (n : Reached) → StepsTo instances indices s n → ⊥
  no-index s one t e n h =
      let p : h.used ≡ one = some_same (sym h.instance_is_there ∙ t) in
      let x = sym e ∙ ap (λ (u : Instance). slice_get indices u.scope) (sym p) ∙ h.index_there in cc x

  module _ (primitive_element : ℕ) (origin : InstancePort) where
    -- The search has continued from its origin, and from the first `at` of the starts that were
    -- seen.
    pub record Goes (seen : List InstancePort) (old found : List Connection) (at : ℕ) : Type 0 where
      pub leads : (t : InstancePort) → Contains seen t → (i : FlatInput) → Arrives instances indices t i → Arrives instances indices origin i
      pub gains : Gains (IsFrom instances indices primitive_element origin) old found
      pub begins_on : (u : InstancePort) → StepsTo instances indices origin (next.Start u) → Contains seen u
      pub begins_ends : (i : FlatInput) → StepsTo instances indices origin (next.PrimitiveElement i) → Contains found (connection primitive_element origin.port.number i)
      pub on : (j : ℕ) (t u : InstancePort) → j < at → slice_get seen j ≡ Some t → StepsTo instances indices t (next.Start u) → Contains seen u
      pub ends : (j : ℕ) (t : InstancePort) (i : FlatInput) → j < at → slice_get seen j ≡ Some t → StepsTo instances indices t (next.PrimitiveElement i) → Contains found (connection primitive_element origin.port.number i)

    pub goes-first : (none seen : List InstancePort) (old found : List Connection) → none ≡ [] → Visits instances indices origin primitive_element origin.port.number none seen old found → Goes seen old found 0
    goes-first none seen old found e v = record {
      leads = λ t h i a. elim (gains-cases (λ u. StepsTo instances indices origin (next.Start u)) none seen v.seen t h) [
        | inl o ↦ absurd (let l = (subst (λ l. Contains l t) e o).1 in omega (arith, l))
        | inr o ↦ after_connection origin t i o a
      ];
      gains = gains-weaken (IsAtOnce instances indices origin primitive_element origin.port.number) (IsFrom instances indices primitive_element origin) old found
          (λ k h. record { to = h.0; arrives = at_once origin h.0 h.1; is = h.2 }) v.found;
      begins_on = v.seen_all;
      begins_ends = λ i st. v.found_all (connection primitive_element origin.port.number i) (i, st, refl);
      on = λ j t u l. absurd (omega (arith, l));
      ends = λ j t i l. absurd (omega (arith, l));
    }

    module _ (a b : List InstancePort) (old f g : List Connection) (at : ℕ) (s : InstancePort) (there : slice_get a at ≡ Some s)
        (v : Visits instances indices s primitive_element origin.port.number a b f g) (w : Goes a old f at) where
      leads-next : (t : InstancePort) → Contains b t → (i : FlatInput) → Arrives instances indices t i → Arrives instances indices origin i
      leads-next t h i r =
          elim (gains-cases (λ u. StepsTo instances indices s (next.Start u)) a b v.seen t h) [
            | inl o ↦ w.leads t o i r
            | inr o ↦ w.leads s (at-contains a at s there) i (after_connection s t i o r)
          ]

      from-here : (k : Connection) → IsAtOnce instances indices s primitive_element origin.port.number k → IsFrom instances indices primitive_element origin k
      from-here k h = record { to = h.0; arrives = w.leads s (at-contains a at s there) h.0 (at_once s h.0 h.1); is = h.2 }

      -- a start before the next one is an earlier start, or this one
      earlier : (j : ℕ) (t : InstancePort) → j < at + 1 → slice_get b j ≡ Some t → ((j < at) × (slice_get a j ≡ Some t)) ⊎ (t ≡ s)
      earlier j t l h =
          let within = slice_get_within a at s there in
          elim (cases_order j at) [
            | inl e ↦ inr (some_same (sym h ∙ gains-at (λ u. StepsTo instances indices s (next.Start u)) a b v.seen j (omega (arith, e, within)) ∙ ap (slice_get a) e ∙ there))
            | inr (inl m) ↦ inl (m, sym (gains-at (λ u. StepsTo instances indices s (next.Start u)) a b v.seen j (omega (arith, m, within))) ∙ h)
            | inr (inr m) ↦ absurd (omega (arith, l, m))
          ]

      pub goes-next : Goes b old g (at + 1)
      goes-next = record {
        leads = leads-next;
        gains = gains-trans (IsFrom instances indices primitive_element origin) old f g w.gains
            (gains-weaken (IsAtOnce instances indices s primitive_element origin.port.number) (IsFrom instances indices primitive_element origin) f g from-here v.found);
        begins_on = λ u st. gains-kept (λ u. StepsTo instances indices s (next.Start u)) a b v.seen u (w.begins_on u st);
        begins_ends = λ i st. gains-kept (IsAtOnce instances indices s primitive_element origin.port.number) f g v.found (connection primitive_element origin.port.number i) (w.begins_ends i st);
        on = λ j t u l h st. elim (earlier j t l h) [
          | inl o ↦ gains-kept (λ u. StepsTo instances indices s (next.Start u)) a b v.seen u (w.on j t u o.0 o.1 st)
          | inr e ↦ v.seen_all u (subst (λ x. StepsTo instances indices x (next.Start u)) e st)
        ];
        ends = λ j t i l h st. elim (earlier j t l h) [
          | inl o ↦ gains-kept (IsAtOnce instances indices s primitive_element origin.port.number) f g v.found (connection primitive_element origin.port.number i) (w.ends j t i o.0 o.1 st)
          | inr e ↦ v.found_all (connection primitive_element origin.port.number i) (i, subst (λ x. StepsTo instances indices x (next.PrimitiveElement i)) e st, refl)
        ];
      }

    module _ (seen : List InstancePort) (old found : List Connection) (at : ℕ) (w : Goes seen old found at) (done : length seen ≤ at) where
      arrived : (s : InstancePort) (i : FlatInput) → Contains seen s → Arrives instances indices s i → Contains found (connection primitive_element origin.port.number i)
      arrived s i h (at_once _ _ st) =
          let p = contains-at seen s h in
          let l = slice_get_within seen p.0 s p.1 in w.ends p.0 s i (omega (arith, l, done)) p.1 st
      arrived s i h (after_connection _ t _ st r) =
          let p = contains-at seen s h in
          let l = slice_get_within seen p.0 s p.1 in arrived t i (w.on p.0 s t (omega (arith, l, done)) p.1 st) r

      from-origin : (i : FlatInput) → Arrives instances indices origin i → Contains found (connection primitive_element origin.port.number i)
      from-origin i (at_once _ _ st) = w.begins_ends i st
      from-origin i (after_connection _ t _ st r) = arrived t i (w.begins_on t st) r

      pub goes-all : HasAll (IsFrom instances indices primitive_element origin) found
      goes-all k h = subst (Contains found) (sym h.is) (from-origin h.to h.arrives)
