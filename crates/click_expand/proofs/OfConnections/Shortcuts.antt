-- A search over the shortened connections finds what a search over the written ones finds.
use Rattle.std.proofs.Common.{◌≡◌, ◌⊎◌, ◌↔◌, inl, inr, ℕ, zero, suc, List, length, Option, Some, None, Contains, refl, sym, ap, ◌∙◌, subst, arith}
use Rattle.std.specs.List.{slice_get}
use Rattle.std.proofs.lemmas.Option.{slice_get_within}
use Rattle.click_scopes.specs.declared.written_connections.Owner.{Owner}
use Rattle.click_scopes.specs.declared.written_connections.Owner.TheVariants as owner
use Rattle.click_expand.specs.declared.instances.tree.InstancePart.{InstancePart}
use Rattle.click_expand.specs.declared.instances.tree.InstancePart.TheVariants as part
use Rattle.click_expand.specs.declared.instances.tree.Instance.{Instance}
use Rattle.click_expand.specs.declared.connections.connection_index.ScopePort.{ScopePort}
use Rattle.click_expand.specs.declared.connections.connection_index.InstancePort.{InstancePort}
use Rattle.click_expand.specs.declared.connections.connection_index.FlatInput.{FlatInput}
use Rattle.click_expand.specs.declared.connections.connection_index.Reached.{Reached}
use Rattle.click_expand.specs.declared.connections.connection_index.Reached.TheVariants as next
use Rattle.click_expand.specs.declared.connections.connection_index.ConnectionIndex.{ConnectionIndex}
use Rattle.click_expand.specs.declared.flat.Connection.{Connection}
use Rattle.click_expand.specs.kept.Wiring.{scope_port, instance_port, ends_in, reached_by, outward, inward, StepsTo, Arrives, at_once, after_connection, Connects}
use Rattle.click_expand.specs.kept.Passthrough.{index_ends, ends_at, LeadsInScope, by_one_connection, over, Lands, on_element, inside_compound, LeadsThrough, StandsIn, same, alike, AreStoodFor, IsShortened, AreShortened, AreNested}
use Rattle.click_expand.proofs.OfConnections.Chains.{some_same}

module _ (instances : List Instance) where
  module _ (ends : ℕ → ScopePort → List ScopePort) (i : FlatInput) where
    -- the input i is reached from there in at most n steps
    abbrev Reaches : ℕ → Reached → Type 0
    Reaches n next.Nothing = ⊥
    Reaches n (next.PrimitiveElement j) = j ≡ i
    Reaches zero (next.Start s) = ⊥
    Reaches (suc n) (next.Start s) = (k : Instance) × (slice_get instances s.within ≡ Some k) × (p : ScopePort) × Contains (ends k.scope s.port) p × Reaches n (reached_by k p.owner p.number)

    abbrev ReachesIn : Reached → Type 0
    ReachesIn m = (n : ℕ) × Reaches n m

    reaches-more : (n : ℕ) (m : Reached) → Reaches n m → Reaches (suc n) m
    reaches-more n next.Nothing h = absurd h
    reaches-more n (next.PrimitiveElement j) h = h
    reaches-more zero (next.Start s) h = absurd h
    reaches-more (suc n) (next.Start s) h = (h.0, h.1, h.2, h.3, reaches-more n (reached_by h.0 h.2.owner h.2.number) h.4)

  module _ (body : ℕ → ℕ → Option ℕ) (nested : AreNested body instances) where
    -- the instance of that body, at an element of an instance
    record IsInside (u e inner : ℕ) (k : Instance) : Type 0 where
      pub place : ℕ
      pub kept : Instance
      pub there : slice_get instances place ≡ Some kept
      pub scope : kept.scope ≡ inner
      pub into : (n : ℕ) → inward (slice_get k.parts e) n ≡ next.Start (instance_port place (scope_port owner.Input n))
      pub out : (n : ℕ) → outward kept.enclosing n ≡ next.Start (instance_port u (scope_port (owner.Element e) n))
      pub is_body : body k.scope e ≡ Some kept.scope

    inside-part : (u e v : ℕ) (k : Instance) → slice_get instances u ≡ Some k → slice_get k.parts e ≡ Some (part.Inner v) → (inner : ℕ) → body k.scope e ≡ Some inner → IsInside u e inner k
    inside-part u e v k there is inner is_body =
        let r = nested.inner u e v k there is in
        let p = r.2.0 in
        record {
          place = v;
          kept = r.0;
          there = r.1;
          scope = some_same (sym r.3 ∙ is_body);
          into = λ n. ap (λ o. inward o n) is;
          out = λ n. ap (λ o. outward o n) r.2.1 ∙ ap (λ z. next.Start (instance_port z (scope_port (owner.Element p.element) n))) r.2.2 ∙ ap (λ z. next.Start (instance_port u (scope_port (owner.Element z) n))) r.2.3;
          is_body = r.3;
        }

    inside-body : (u e inner : ℕ) (k : Instance) → slice_get instances u ≡ Some k → body k.scope e ≡ Some inner → IsInside u e inner k
    inside-body u e inner k there is_body =
        let r = nested.part u e inner k there is_body in inside-part u e r.0 k there r.1 inner is_body

    module _ (ends : ℕ → ScopePort → List ScopePort) (i : FlatInput) where
      -- connections inside an instance are followed step by step
      runs-reach : (s : ℕ) (a b : ScopePort) → LeadsInScope ends body s a b → (u : ℕ) (k : Instance) → slice_get instances u ≡ Some k → k.scope ≡ s →
          ReachesIn ends i (reached_by k b.owner b.number) → ReachesIn ends i (next.Start (instance_port u a))
      runs-reach _ _ _ (by_one_connection s a b c) u k there e h = (suc h.0, (k, there, b, subst (λ z. Contains (ends z a) b) (sym e) c, h.1))
      runs-reach _ _ _ (over s e n inner m a b before is through after) u k there scope h =
          let w = inside-body u e inner k there (ap (λ z. body z e) scope ∙ is) in
          let r = runs-reach s (scope_port (owner.Element e) m) b after u k there scope h in
          let q = runs-reach inner (scope_port owner.Input n) (scope_port owner.Output m) through w.place w.kept w.there w.scope (subst (ReachesIn ends i) (sym (w.out m)) r) in
          runs-reach s a (scope_port (owner.Element e) n) before u k there scope (subst (ReachesIn ends i) (sym (w.into n)) q)

      lands-over : (s : ℕ) (b : ScopePort) → Lands ends body s b → (e n inner m : ℕ) (a : ScopePort) → b ≡ scope_port (owner.Element e) m → LeadsInScope ends body s a (scope_port (owner.Element e) n) →
          body s e ≡ Some inner → LeadsInScope ends body inner (scope_port owner.Input n) (scope_port owner.Output m) → Lands ends body s a
      lands-over _ _ (on_element s j k b r none) e n inner m a is before there through =
          on_element s j k a (over s e n inner m a (scope_port (owner.Element j) k) before there through (subst (λ z. LeadsInScope ends body s z (scope_port (owner.Element j) k)) is r)) none
      lands-over _ _ (inside_compound s j k d b r some l) e n inner m a is before there through =
          inside_compound s j k d a (over s e n inner m a (scope_port (owner.Element j) k) before there through (subst (λ z. LeadsInScope ends body s z (scope_port (owner.Element j) k)) is r)) some l

      -- the way to an input leaves an instance at one of its outputs
      abbrev PrimitiveElements : ℕ → Instance → ScopePort → Type 0
      PrimitiveElements n k a = (m : ℕ) × LeadsInScope ends body k.scope a (scope_port owner.Output m) × Reaches ends i n (outward k.enclosing m)

      -- the way to an input ends in an instance, or leaves it
      abbrev Parts : ℕ → Instance → ScopePort → Type 0
      Parts n k a = Lands ends body k.scope a ⊎ PrimitiveElements n k a

      module _ (n u : ℕ) (k : Instance) (a : ScopePort) (there : slice_get instances u ≡ Some k)
          (below : (v : ℕ) (m : Instance) (b : ScopePort) → slice_get instances v ≡ Some m → Reaches ends i n (next.Start (instance_port v b)) → Parts n m b) where
        parts-over : (e number inner m : ℕ) → Contains (ends k.scope a) (scope_port (owner.Element e) number) → body k.scope e ≡ Some inner →
            LeadsInScope ends body inner (scope_port owner.Input number) (scope_port owner.Output m) → Parts n k (scope_port (owner.Element e) m) → Parts n k a
        parts-over e number inner m c is through (inl l) =
            inl (lands-over k.scope (scope_port (owner.Element e) m) l e number inner m a refl (by_one_connection k.scope a (scope_port (owner.Element e) number) c) is through)
        parts-over e number inner m c is through (inr (q, r, out)) =
            inr (q, over k.scope e number inner m a (scope_port owner.Output q) (by_one_connection k.scope a (scope_port (owner.Element e) number) c) is through r, out)

        parts-behind : (e number : ℕ) → Contains (ends k.scope a) (scope_port (owner.Element e) number) → (w : Instance) → body k.scope e ≡ Some w.scope →
            ((m : ℕ) → outward w.enclosing m ≡ next.Start (instance_port u (scope_port (owner.Element e) m))) → Parts n w (scope_port owner.Input number) → Parts n k a
        parts-behind e number c w is out (inl l) = inl (inside_compound k.scope e number w.scope a (by_one_connection k.scope a (scope_port (owner.Element e) number) c) is l)
        parts-behind e number c w is out (inr (m, r, h)) =
            parts-over e number w.scope m c is r (below u k (scope_port (owner.Element e) m) there (subst (Reaches ends i n) (out m) h))

        parts-element : (e number : ℕ) → Contains (ends k.scope a) (scope_port (owner.Element e) number) → (o : Option InstancePart) → slice_get k.parts e ≡ o → Reaches ends i n (inward o number) → Parts n k a
        parts-element e number c None is h = absurd h
        parts-element e number c (Some (part.PrimitiveElement l)) is h =
            inl (on_element k.scope e number a (by_one_connection k.scope a (scope_port (owner.Element e) number) c) (nested.primitive_element u e l k there is))
        parts-element e number c (Some (part.Inner v)) is h =
            let r = nested.inner u e v k there is in
            let w = inside-part u e v k there is r.0.scope r.3 in
            let at : next.Start (instance_port v (scope_port owner.Input number)) ≡ next.Start (instance_port w.place (scope_port owner.Input number)) = ap (λ o. inward o number) (sym is) ∙ w.into number in
            parts-behind e number c w.kept w.is_body w.out (below w.place w.kept (scope_port owner.Input number) w.there (subst (Reaches ends i n) at h))

        parts-step : (o : Owner) (number : ℕ) → Contains (ends k.scope a) (scope_port o number) → Reaches ends i n (reached_by k o number) → Parts n k a
        parts-step owner.Input number c h = absurd h
        parts-step owner.Output number c h = inr (number, by_one_connection k.scope a (scope_port owner.Output number) c, h)
        parts-step (owner.Element e) number c h = parts-element e number c (slice_get k.parts e) refl h

        parts-at : Reaches ends i (suc n) (next.Start (instance_port u a)) → Parts n k a
        parts-at h =
            let e : h.0 ≡ k = some_same (sym h.1 ∙ there) in
            let p = h.2 in
            parts-step p.owner p.number (subst (λ (z : Instance). Contains (ends z.scope a) p) e h.3) (subst (λ z. Reaches ends i n (reached_by z p.owner p.number)) e h.4)

      parts-more : (n : ℕ) (k : Instance) (a : ScopePort) → Parts n k a → Parts (suc n) k a
      parts-more n k a (inl l) = inl l
      parts-more n k a (inr (m, r, h)) = inr (m, r, reaches-more ends i n (outward k.enclosing m) h)

      parts : (n u : ℕ) (k : Instance) (a : ScopePort) → slice_get instances u ≡ Some k → Reaches ends i (suc n) (next.Start (instance_port u a)) → Parts n k a
      parts zero u k a there h = parts-at zero u k a there (λ v m b e f. absurd f) h
      parts (suc n) u k a there h = parts-at (suc n) u k a there (λ v m b e f. parts-more n m b (parts n v m b e f)) h

      parts-within : (n u : ℕ) (k : Instance) (a : ScopePort) → slice_get instances u ≡ Some k → Reaches ends i n (next.Start (instance_port u a)) → Parts n k a
      parts-within zero u k a there h = absurd h
      parts-within (suc n) u k a there h = parts-more n k a (parts n u k a there h)

      -- from a pass-through input of an instance, the way leaves the instance
      goes-out-through : (n : ℕ) (k : Instance) (q : ℕ) (outs : List ScopePort) → LeadsThrough ends body k.scope q outs → Parts n k (scope_port owner.Input q) → PrimitiveElements n k (scope_port owner.Input q)
      goes-out-through n k q outs l (inl h) = absurd (l.no_landing h)
      goes-out-through n k q outs l (inr h) = h

    module _ (ends short : ℕ → ScopePort → List ScopePort) (i : FlatInput) where
      -- the way from an input leaves the instance if it does from an input that leads to the same
      -- outputs
      sound-alike : (n u x inner : ℕ) (k : Instance) (w : IsInside u x inner k) (number other : ℕ) → LeadsThrough ends body w.kept.scope number (short w.kept.scope (scope_port owner.Input other)) →
          ((m : Reached) → Reaches short i n m → ReachesIn ends i m) → Reaches short i n (next.Start (instance_port w.place (scope_port owner.Input other))) →
          ReachesIn ends i (next.Start (instance_port w.place (scope_port owner.Input number)))
      sound-alike zero u x inner k w number other l below h = absurd h
      sound-alike (suc j) u x inner k w number other l below h =
          let e : h.0 ≡ w.kept = some_same (sym h.1 ∙ w.there) in
          let p = h.2 in
          let out = l.sound p (subst (λ (z : Instance). Contains (short z.scope (scope_port owner.Input other)) p) e h.3) in
          let m = reached_by w.kept p.owner p.number in
          let rest : Reaches short i j m = subst (λ z. Reaches short i j (reached_by z p.owner p.number)) e h.4 in
          runs-reach ends i w.kept.scope (scope_port owner.Input number) p out.2 w.place w.kept w.there refl (below m (reaches-more short i j m rest))

      module _ (n u : ℕ) (k : Instance) (a : ScopePort) (there : slice_get instances u ≡ Some k) where
        module _ (below : (m : Reached) → Reaches ends i n m → ReachesIn short i m) where
          complete-by : (s : ℕ) (p q : ScopePort) → StandsIn ends body short s p q → s ≡ k.scope → Contains (short s a) q → Reaches ends i n (reached_by k p.owner p.number) → ReachesIn short i (next.Start (instance_port u a))
          complete-by s _ _ (same p) e c h =
              let r = below (reached_by k p.owner p.number) h in
              (suc r.0, (k, there, p, subst (λ z. Contains (short z a) p) e c, r.1))
          complete-by s _ _ (alike x number other inner is l) e c h =
              let w = inside-body u x inner k there (ap (λ z. body z x) (sym e) ∙ is) in
              let t = subst (λ z. LeadsThrough ends body z number (short z (scope_port owner.Input other))) (sym w.scope) l in
              let way = goes-out-through ends i n w.kept number (short w.kept.scope (scope_port owner.Input other)) t
              (parts-within ends i n w.place w.kept (scope_port owner.Input number) w.there (subst (Reaches ends i n) (w.into number) h)) in
              let r = below (outward w.kept.enclosing way.0) way.2 in
              let inner_step : Reaches short i (suc r.0) (next.Start (instance_port w.place (scope_port owner.Input other))) =
              (w.kept, w.there, scope_port owner.Output way.0, t.complete way.0 way.1, r.1) in (
                suc (suc r.0),
                (k, there, scope_port (owner.Element x) other, subst (λ z. Contains (short z a) (scope_port (owner.Element x) other)) e c, subst (Reaches short i (suc r.0)) (sym (w.into other)) inner_step),
              )

          complete-step : IsShortened ends body short k.scope → (p : ScopePort) → Contains (ends k.scope a) p → Reaches ends i n (reached_by k p.owner p.number) → ReachesIn short i (next.Start (instance_port u a))
          complete-step h p c r = by (h a)
            where
              by : AreStoodFor ends body short k.scope (ends k.scope a) (short k.scope a) ⊎ ((q : ℕ) × (a ≡ scope_port owner.Input q) × LeadsThrough ends body k.scope q (short k.scope a)) →
                  ReachesIn short i (next.Start (instance_port u a))
              by (inl stood) = let q = stood.each p c in complete-by k.scope p q.0 q.2 refl q.1 r
              by (inr (q, is, l)) =
                  let chain : Reaches ends i (suc n) (next.Start (instance_port u (scope_port owner.Input q))) = subst (λ z. Reaches ends i (suc n) (next.Start (instance_port u z))) is (k, there, p, c, r) in
                  let way = goes-out-through ends i n k q (short k.scope a) l (parts ends i n u k (scope_port owner.Input q) there chain) in
                  let rest = below (outward k.enclosing way.0) way.2 in
                  (suc rest.0, (k, there, scope_port owner.Output way.0, l.complete way.0 way.1, rest.1))

        sound-by : (s : ℕ) (p q : ScopePort) → StandsIn ends body short s p q → s ≡ k.scope → Contains (ends s a) p → ((m : Reached) → Reaches short i n m → ReachesIn ends i m) →
            Reaches short i n (reached_by k q.owner q.number) → ReachesIn ends i (next.Start (instance_port u a))
        sound-by s _ _ (same p) e c below h =
            let r = below (reached_by k p.owner p.number) h in
            (suc r.0, (k, there, p, subst (λ z. Contains (ends z a) p) e c, r.1))
        sound-by s _ _ (alike x number other inner is l) e c below h =
            let w = inside-body u x inner k there (ap (λ z. body z x) (sym e) ∙ is) in
            let t = subst (λ z. LeadsThrough ends body z number (short z (scope_port owner.Input other))) (sym w.scope) l in
            let r = sound-alike n u x inner k w number other t below (subst (Reaches short i n) (w.into other) h) in (
              suc r.0,
              (k, there, scope_port (owner.Element x) number, subst (λ z. Contains (ends z a) (scope_port (owner.Element x) number)) e c, subst (Reaches ends i r.0) (sym (w.into number)) r.1),
            )

        sound-step : ((m : Reached) → Reaches short i n m → ReachesIn ends i m) → IsShortened ends body short k.scope → (q : ScopePort) → Contains (short k.scope a) q →
            Reaches short i n (reached_by k q.owner q.number) → ReachesIn ends i (next.Start (instance_port u a))
        sound-step below h q c r = by (h a)
          where
            by : AreStoodFor ends body short k.scope (ends k.scope a) (short k.scope a) ⊎ ((m : ℕ) × (a ≡ scope_port owner.Input m) × LeadsThrough ends body k.scope m (short k.scope a)) →
                ReachesIn ends i (next.Start (instance_port u a))
            by (inl stood) = let p = stood.back q c in sound-by k.scope p.0 q p.2 refl p.1 below r
            by (inr (m, is, l)) =
                let out = l.sound q c in
                let rest = below (reached_by k q.owner q.number) r in
                subst (λ z. ReachesIn ends i (next.Start (instance_port u z))) (sym is) (runs-reach ends i k.scope (scope_port owner.Input m) q out.2 u k there refl rest)

      complete : ((s : ℕ) (a p : ScopePort) → Contains (ends s a) p → IsShortened ends body short s) → (n : ℕ) (m : Reached) → Reaches ends i n m → ReachesIn short i m
      complete is n next.Nothing h = absurd h
      complete is n (next.PrimitiveElement j) h = (zero, h)
      complete is zero (next.Start s) h = absurd h
      complete is (suc n) (next.Start s) h = complete-step n s.within h.0 s.port h.1 (λ m r. complete is n m r) (is h.0.scope s.port h.2 h.3) h.2 h.3 h.4

      sound : ((s : ℕ) (a p : ScopePort) → Contains (short s a) p → IsShortened ends body short s) → (n : ℕ) (m : Reached) → Reaches short i n m → ReachesIn ends i m
      sound is n next.Nothing h = absurd h
      sound is n (next.PrimitiveElement j) h = (zero, h)
      sound is zero (next.Start s) h = absurd h
      sound is (suc n) (next.Start s) h = sound-step n s.within h.0 s.port h.1 (λ m r. sound is n m r) (is h.0.scope s.port h.2 h.3) h.2 h.3 h.4

  -- the index of a scope, for a port with ends
  index-of : (xs : List ConnectionIndex) (s : ℕ) (a p : ScopePort) → Contains (ends_at xs s a) p → (x : ConnectionIndex) × (slice_get xs s ≡ Some x) × Contains (ends_in x.ends.entries a) p
  index-of xs s a p c = by (slice_get xs s) refl c
    where
      by : (o : Option ConnectionIndex) → slice_get xs s ≡ o → Contains (index_ends o a) p → (x : ConnectionIndex) × (slice_get xs s ≡ Some x) × Contains (ends_in x.ends.entries a) p
      by None e h = absurd (omega (arith, h.1))
      by (Some x) e h = (x, e, h)

  module _ (xs : List ConnectionIndex) where
    steps-reach : (s : InstancePort) (i : FlatInput) (n : ℕ) (m : Reached) → StepsTo instances xs s m → Reaches (ends_at xs) i n m → ReachesIn (ends_at xs) i (next.Start s)
    steps-reach s i n m st h = (
      suc n,
      (st.used, st.instance_is_there, st.to, subst (λ o. Contains (index_ends o s.port) st.to) (sym st.index_there) st.joined, subst (Reaches (ends_at xs) i n) st.is h),
    )

    arrives-reach : (s : InstancePort) (i : FlatInput) → Arrives instances xs s i → ReachesIn (ends_at xs) i (next.Start s)
    arrives-reach _ _ (at_once s i st) = steps-reach s i zero (next.PrimitiveElement i) st refl
    arrives-reach _ _ (after_connection s t i st w) = let r = arrives-reach t i w in steps-reach s i r.0 (next.Start t) st r.1

    arrives-by : (s : InstancePort) (i : FlatInput) (n : ℕ) → ((t : InstancePort) → Reaches (ends_at xs) i n (next.Start t) → Arrives instances xs t i) → (m : Reached) → StepsTo instances xs s m → Reaches (ends_at xs) i n m →
        Arrives instances xs s i
    arrives-by s i n below next.Nothing st h = absurd h
    arrives-by s i n below (next.PrimitiveElement j) st h = at_once s i (subst (λ z. StepsTo instances xs s (next.PrimitiveElement z)) h st)
    arrives-by s i n below (next.Start t) st h = after_connection s t i st (below t h)

    reach-arrives : (i : FlatInput) (n : ℕ) (s : InstancePort) → Reaches (ends_at xs) i n (next.Start s) → Arrives instances xs s i
    reach-arrives i zero s h = absurd h
    reach-arrives i (suc n) s h =
        let x = index-of xs h.0.scope s.port h.2 h.3 in
        let m = reached_by h.0 h.2.owner h.2.number in
        arrives-by s i n (λ t r. reach-arrives i n t r) m (record { used = h.0; instance_is_there = h.1; index = x.0; index_there = x.1; to = h.2; joined = x.2; is = refl }) h.4

  connects-by : (xs ys : List ConnectionIndex) → ((s : InstancePort) (i : FlatInput) → Arrives instances xs s i → Arrives instances ys s i) → (k : Connection) → Connects instances xs k → Connects instances ys k
  connects-by xs ys f k h =
      let w = h.is_from.is_from in
      record {
        within = h.within;
        is_from = record {
          port = h.is_from.port;
          is_from = record {
            used = w.used;
            there = w.there;
            element = w.element;
            owner = w.owner;
            is_primitive_element = w.is_primitive_element;
            is_from = record { to = w.is_from.to; arrives = f (instance_port h.within h.is_from.port) w.is_from.to w.is_from.arrives; is = w.is_from.is };
          };
        };
      }

  module _ (body : ℕ → ℕ → Option ℕ) (nested : AreNested body instances) (whole short : List ConnectionIndex) (as_many : length whole ≡ length short)
      (shortened : AreShortened (ends_at whole) body (ends_at short) short) where
    shortened-whole : (s : ℕ) (a p : ScopePort) → Contains (ends_at whole s a) p → IsShortened (ends_at whole) body (ends_at short) s
    shortened-whole s a p c =
        let x = index-of whole s a p c in
        let l = slice_get_within whole s x.0 x.1 in shortened.each s (omega (arith, l, as_many))

    shortened-short : (s : ℕ) (a p : ScopePort) → Contains (ends_at short s a) p → IsShortened (ends_at whole) body (ends_at short) s
    shortened-short s a p c = let x = index-of short s a p c in shortened.each s (slice_get_within short s x.0 x.1)

    pub arrives-short : (s : InstancePort) (i : FlatInput) → Arrives instances whole s i ↔ Arrives instances short s i
    arrives-short s i = (
      λ h. (let r = arrives-reach whole s i h in let q = complete body nested (ends_at whole) (ends_at short) i shortened-whole r.0 (next.Start s) r.1 in reach-arrives short i q.0 s q.1),
      λ h. (let r = arrives-reach short s i h in let q = sound body nested (ends_at whole) (ends_at short) i shortened-short r.0 (next.Start s) r.1 in reach-arrives whole i q.0 s q.1),
    )

    pub connects-short : (k : Connection) → Connects instances whole k ↔ Connects instances short k
    connects-short k = (connects-by whole short (λ s i. (arrives-short s i).0) k, connects-by short whole (λ s i. (arrives-short s i).1) k)
