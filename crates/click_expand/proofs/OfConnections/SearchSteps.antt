-- The steps of a search are the written connections, so that a search finds the connections of the
-- flat elements.
use Rattle.std.proofs.Common.{◌≡◌, ℕ, ◌<◌, zero, suc, List, [], ◌∷◌, ◌++◌, Option, Some, None, Contains, refl, sym, ap, ◌∙◌, subst, arith}
use Rattle.std.specs.List.{slice_get}
use Rattle.std.proofs.lemmas.Option.{slice_get_within}
use Rattle.click_base.specs.declared.class.Class.{Class}
use Rattle.click_text.specs.declared.syntax.Statement.{Statement}
use Rattle.click_text.specs.declared.syntax.Config.{Config}
use Rattle.click_scopes.specs.Scopes.{Scope, Stands}
use Rattle.click_scopes.specs.Classes.{primitive}
use Rattle.click_scopes.specs.Elements.{ScopeElement}
use Rattle.click_scopes.specs.Faults.{WrittenConnection, elements_of_scope, scope_connections, IsFaultless}
use Rattle.click_expand.specs.Instances.{PrimitiveElement, LeadsTo}
use Rattle.click_expand.specs.Connections.{Node, output_of, input_of, begin_node, end_node, Leads, by_connection, further}
use Rattle.click_expand.specs.Flat.{Joins}
use Rattle.click_scopes.specs.kept.Nesting.{IsNested}
use Rattle.click_scopes.specs.kept.Scoped.{table_place}
use Rattle.click_scopes.specs.kept.WrittenConnections.{IsWrittenConnection}
use Rattle.click_scopes.specs.kept.AllScopes.{AreAllScopes}
use Rattle.click_expand.specs.kept.KnownInstances.{KnownInstance, scope_elements_at, IsInner, IsEnclosing, IsPart, IsInstance, AreInstances}
use Rattle.click_scopes.specs.declared.written_connections.Owner.{Owner}
use Rattle.click_scopes.specs.declared.written_connections.Owner.TheVariants as owner
use Rattle.click_scopes.specs.declared.written_connections.WrittenConnection.{WrittenConnection as ConnectionKept}
use Rattle.click_scopes.specs.declared.scopes.Scope.{Scope as ScopeKept}
use Rattle.click_expand.specs.declared.instances.tree.InstancePart.{InstancePart}
use Rattle.click_expand.specs.declared.instances.tree.InstancePart.TheVariants as part
use Rattle.click_expand.specs.declared.instances.tree.Place.{Place}
use Rattle.click_expand.specs.declared.instances.tree.Instance.{Instance}
use Rattle.click_expand.specs.declared.connections.connection_index.ScopePort.{ScopePort}
use Rattle.click_expand.specs.declared.connections.connection_index.InstancePort.{InstancePort}
use Rattle.click_expand.specs.declared.connections.connection_index.FlatInput.{FlatInput}
use Rattle.click_expand.specs.declared.connections.connection_index.Reached.{Reached}
use Rattle.click_expand.specs.declared.connections.connection_index.Reached.TheVariants as next
use Rattle.click_expand.specs.declared.connections.connection_index.ConnectionIndex.{ConnectionIndex}
use Rattle.click_expand.specs.declared.flat.Connection.{Connection}
use Rattle.click_expand.specs.kept.Wiring.{scope_port, instance_port, flat_input, AreIndices, ends_in, reached_by, outward, inward, StepsTo, Arrives, at_once, after_connection, Connects}
use Rattle.click_expand.proofs.OfConnections.ConnectionIndex.{index-at}
use Rattle.click_expand.proofs.OfConnections.Chains.{some_same, push-not-nil, push-same, at-some, written_connection-of, kept-of, Denotes, Ends, denotes-same, apart, path-same, denotes-once, leads-stands, names-apart, leads-once, no-scope, nothing-behind, nothing-out, written_connection-begins, written_connection-ends}

module _ (c : Config) (nested : IsNested c) (sound : IsFaultless c) (instances : List Instance) (places : List Place) (known : List KnownInstance) (primitive_elements : List PrimitiveElement) (are : AreInstances c instances places known primitive_elements) where
  -- the instance at an index: its stored form, and its form in the definitions
  pub record IsAt (u : ℕ) (k : Instance) (x : KnownInstance) : Type 0 where
    pub kept : slice_get instances u ≡ Some k
    pub used : slice_get known u ≡ Some x
    pub is : IsInstance c instances places known u k x

  at-kept : (u : ℕ) (k : Instance) → slice_get instances u ≡ Some k → (x : KnownInstance) × IsAt u k x
  at-kept u k e = let r = are.each u k e in (r.0, record { kept = e; used = r.1; is = r.2 })

  at-both : (u : ℕ) (k : Instance) (x : KnownInstance) → slice_get instances u ≡ Some k → slice_get known u ≡ Some x → IsAt u k x
  at-both u k x e f =
      let r = at-kept u k e in subst (IsAt u k) (some_same (sym r.1.used ∙ f)) r.1

  -- a flat element that is a part of an instance
  pub record IsPrimitiveElementAt (x : KnownInstance) (l : ScopeElement) (n : ℕ) : Type 0 where
    pub primitive_element : PrimitiveElement
    pub there : slice_get primitive_elements n ≡ Some primitive_element
    pub path : primitive_element.path ≡ x.path ++ l.name ∷ []
    pub class : Class
    pub meaning : l.meaning ≡ Some (primitive class)

  primitive_element-part : (u : ℕ) (k : Instance) (x : KnownInstance) → IsAt u k x → (i : ℕ) (l : ScopeElement) → slice_get (scope_elements_at c x) i ≡ Some l → (n : ℕ) → IsPart instances places u i l (part.PrimitiveElement n) → IsPrimitiveElementAt x l n
  primitive_element-part u k x h i l there n (class, meaning, (p, place, within, element)) =
      let r = are.primitive_element n p place in
      let f = r.0 in let w = r.2 in
      let y : w.used ≡ x = some_same (sym w.instance_is_there ∙ ap (slice_get known) within ∙ h.used) in
      let m : w.scope_element ≡ l = some_same (sym w.scope_element_there ∙ ap (λ (z : KnownInstance). slice_get (scope_elements_at c z) p.element) y ∙ ap (slice_get (scope_elements_at c x)) element ∙ there) in
      record {
        primitive_element = f;
        there = r.1;
        path = w.path ∙ ap (λ (z : KnownInstance). z.path ++ w.scope_element.name ∷ []) y ∙ ap (λ (z : ScopeElement). x.path ++ z.name ∷ []) m;
        class = class;
        meaning = meaning;
      }

  -- an instance that is a part of an instance
  inner-part : (u : ℕ) (k : Instance) (x : KnownInstance) → IsAt u k x → (i : ℕ) (l : ScopeElement) → slice_get (scope_elements_at c x) i ≡ Some l → (v : ℕ) → IsPart instances places u i l (part.Inner v) →
      (kv : Instance) × (y : KnownInstance) × IsAt v kv y × (y.path ≡ x.path ++ l.name ∷ [])
  inner-part u k x h i l there v (b, meaning, (kv, kept, (p, enclosing, within, element))) =
      let r = at-kept v kv kept in
      let y = r.0 in
      let a = subst (IsEnclosing c known v y) enclosing r.1.is.enclosing in
      let o : a.1.0 ≡ x = some_same (sym a.1.1 ∙ ap (slice_get known) within ∙ h.used) in
      let w = a.1.2 in
      let m : w.scope_element ≡ l = some_same (sym w.there ∙ ap (λ (z : KnownInstance). slice_get (scope_elements_at c z) p.element) o ∙ ap (slice_get (scope_elements_at c x)) element ∙ there) in
      (kv, y, r.1, w.path ∙ ap (λ (z : KnownInstance). z.path ++ w.scope_element.name ∷ []) o ∙ ap (λ (z : ScopeElement). x.path ++ z.name ∷ []) m)

  -- the instance around an instance
  outer-use : (u : ℕ) (k : Instance) (x : KnownInstance) → IsAt u k x → (p : Place) → k.enclosing ≡ Some p → (ko : Instance) × (o : KnownInstance) × IsAt p.within ko o × IsInner c o x p.element
  outer-use u k x h p e =
      let a = subst (IsEnclosing c known u x) e h.is.enclosing in
      let r = h.is.own p e in
      (r.0, a.1.0, at-both p.within r.0 a.1.0 r.1 a.1.1, a.1.2)

  -- the start of a search is this node
  pub record IsStart (s : InstancePort) (n : Node) : Type 0 where
    pub kept : Instance
    pub used : KnownInstance
    pub at : IsAt s.within kept used
    pub denotes : Denotes (scope_elements_at c used) used.path s.port.owner s.port.number n

  -- the result of a step is this node
  abbrev pub Lies : Reached → Node → Type 0
  Lies (next.Start t) n = IsStart t n
  Lies (next.PrimitiveElement i) n = (f : PrimitiveElement) × (slice_get primitive_elements i.primitive_element ≡ Some f) × (n ≡ input_of f.path i.number)
  Lies next.Nothing n = (p : ℕ) × (n ≡ output_of [] p)

  lies-out : (u : ℕ) (k : Instance) (x : KnownInstance) → IsAt u k x → (a : Option Place) → k.enclosing ≡ a → (p : ℕ) (n : Node) → n ≡ output_of x.path p → Lies (outward a p) n
  lies-out u k x h None e p n m =
      let a = subst (IsEnclosing c known u x) e h.is.enclosing in (p, m ∙ ap (λ (z : KnownInstance). output_of z.path p) a.1)
  lies-out u k x h (Some w) e p n m =
      let r = outer-use u k x h w e in
      record { kept = r.0; used = r.1; at = r.2; denotes = (r.3.scope_element, r.3.there, m ∙ ap (λ z. output_of z p) r.3.path) }

  lies-in : (u : ℕ) (k : Instance) (x : KnownInstance) → IsAt u k x → (i : ℕ) (l : ScopeElement) → slice_get (scope_elements_at c x) i ≡ Some l → (a : InstancePart) → IsPart instances places u i l a → (p : ℕ) (n : Node) →
      n ≡ input_of (x.path ++ l.name ∷ []) p → Lies (inward (Some a) p) n
  lies-in u k x h i l there (part.PrimitiveElement v) w p n m =
      let r = primitive_element-part u k x h i l there v w in (r.primitive_element, r.there, m ∙ ap (λ z. input_of z p) (sym r.path))
  lies-in u k x h i l there (part.Inner v) w p n m =
      let r = inner-part u k x h i l there v w in
      record { kept = r.0; used = r.1; at = r.2; denotes = m ∙ ap (λ z. input_of z p) (sym r.3) }

  lies : (u : ℕ) (k : Instance) (x : KnownInstance) → IsAt u k x → (o : Owner) (p : ℕ) (n : Node) → Ends (scope_elements_at c x) x.path o p n → Lies (reached_by k o p) n
  lies u k x h owner.Input p n e = absurd e
  lies u k x h owner.Output p n e = lies-out u k x h k.enclosing refl p n e
  lies u k x h (owner.Element i) p n e =
      let r = h.is.parts.each i e.0 e.1 in
      subst (λ a. Lies (inward a p) n) (sym r.1) (lies-in u k x h i e.0 e.1 r.0 r.2 p n e.2)

  -- an instance has one index: its path leads to no other
  once-by : (u v : ℕ) (k m : Instance) (x y : KnownInstance) → IsAt u k x → IsAt v m y → x.path ≡ y.path →
      ((a b : ℕ) (ka kb : Instance) (xa xb : KnownInstance) → a < u → IsAt a ka xa → IsAt b kb xb → xa.path ≡ xb.path → a ≡ b) → (p q : Option Place) → k.enclosing ≡ p → m.enclosing ≡ q → u ≡ v
  once-by u v k m x y h g e ih None None s t =
      let a = subst (IsEnclosing c known u x) s h.is.enclosing in let b = subst (IsEnclosing c known v y) t g.is.enclosing in a.0 ∙ sym b.0
  once-by u v k m x y h g e ih None (Some q) s t =
      let a = subst (IsEnclosing c known u x) s h.is.enclosing in let r = outer-use v m y g q t in
      absurd (push-not-nil r.1.path r.3.scope_element.name (sym r.3.path ∙ sym e ∙ ap (λ (z : KnownInstance). z.path) a.1))
  once-by u v k m x y h g e ih (Some p) None s t =
      let b = subst (IsEnclosing c known v y) t g.is.enclosing in let r = outer-use u k x h p s in
      absurd (push-not-nil r.1.path r.3.scope_element.name (sym r.3.path ∙ e ∙ ap (λ (z : KnownInstance). z.path) b.1))
  once-by u v k m x y h g e ih (Some p) (Some q) s t =
      let below = (subst (IsEnclosing c known u x) s h.is.enclosing).0 in
      let a = outer-use u k x h p s in let b = outer-use v m y g q t in
      let n = push-same a.1.path b.1.path a.3.scope_element.name b.3.scope_element.name (sym a.3.path ∙ e ∙ b.3.path) in
      let w : p.within ≡ q.within = ih p.within q.within a.0 b.0 a.1 b.1 below a.2 b.2 n.0 in
      let o : b.1 ≡ a.1 = some_same (sym b.2.used ∙ ap (slice_get known) (sym w) ∙ a.2.used) in
      let there : slice_get (scope_elements_at c a.1) q.element ≡ Some b.3.scope_element = ap (λ (z : KnownInstance). slice_get (scope_elements_at c z) q.element) (sym o) ∙ b.3.there in
      let element : p.element ≡ q.element = names-apart c nested sound a.1.scope a.1.visible a.1.enclosing a.2.is.stands p.element q.element a.3.scope_element b.3.scope_element a.3.there there n.1 in
      let f = h.is.own p s in let j = g.is.own q t in
      let kept : f.0 ≡ j.0 = some_same (sym f.1 ∙ ap (slice_get instances) w ∙ j.1) in
      let z : Some (part.Inner u) ≡ Some (part.Inner v) = sym f.2 ∙ ap (λ (k : Instance). slice_get k.parts p.element) kept ∙ ap (slice_get j.0.parts) element ∙ j.2 in
      cc z

  use-below : (limit u v : ℕ) (k m : Instance) (x y : KnownInstance) → u < limit → IsAt u k x → IsAt v m y → x.path ≡ y.path → u ≡ v
  use-below zero u v k m x y l h g e = absurd (omega (arith, l))
  use-below (suc limit) u v k m x y l h g e =
      once-by u v k m x y h g e (λ a b ka kb xa xb s p q r. use-below limit a b ka kb xa xb (omega (arith, s, l)) p q r) k.enclosing m.enclosing refl refl

  use-once : (u v : ℕ) (k m : Instance) (x y : KnownInstance) → IsAt u k x → IsAt v m y → x.path ≡ y.path → u ≡ v
  use-once u v k m x y h g e = use-below (suc u) u v k m x y (omega arith) h g e

  -- where a flat element is
  pub record IsPrimitiveElementIn (f : PrimitiveElement) (n : ℕ) : Type 0 where
    pub within : ℕ
    pub element : ℕ
    pub kept : Instance
    pub used : KnownInstance
    pub at : IsAt within kept used
    pub part_there : slice_get kept.parts element ≡ Some (part.PrimitiveElement n)
    pub scope_element : ScopeElement
    pub scope_element_there : slice_get (scope_elements_at c used) element ≡ Some scope_element
    pub path : f.path ≡ used.path ++ scope_element.name ∷ []
    pub class : Class
    pub meaning : scope_element.meaning ≡ Some (primitive class)

  primitive_element-in : (n : ℕ) (f : PrimitiveElement) → slice_get primitive_elements n ≡ Some f → IsPrimitiveElementIn f n
  primitive_element-in n f e =
      let l = slice_get_within primitive_elements n f e in
      let p = at-some places n (omega (arith, l, are.as_many_primitive_elements)) in
      let r = are.primitive_element n p.0 p.1 in
      let same : r.0 ≡ f = some_same (sym r.1 ∙ e) in
      let w = r.2 in
      record {
        within = p.0.within;
        element = p.0.element;
        kept = w.instance_kept;
        used = w.used;
        at = at-both p.0.within w.instance_kept w.used w.instance_there w.instance_is_there;
        part_there = w.part_there;
        scope_element = w.scope_element;
        scope_element_there = w.scope_element_there;
        path = ap (λ (z : PrimitiveElement). z.path) (sym same) ∙ w.path;
        class = r.0.class;
        meaning = w.meaning;
      }

  -- the path of a flat element leads to no scope
  primitive_element-no-scope : (n : ℕ) (f : PrimitiveElement) → IsPrimitiveElementIn f n → (t : Scope) (w : List Statement) → LeadsTo c f.path t w → ⊥
  primitive_element-no-scope n f h t w k =
      no-scope c nested sound h.used.path h.used.scope h.used.visible h.element h.scope_element h.class h.at.is.leads h.scope_element_there h.meaning f.path t w k h.path

  -- two flat elements with the same path are the same
  primitive_element-once : (n m : ℕ) (f g : PrimitiveElement) → IsPrimitiveElementIn f n → IsPrimitiveElementIn g m → f.path ≡ g.path → n ≡ m
  primitive_element-once n m f g h k e =
      let s = push-same h.used.path k.used.path h.scope_element.name k.scope_element.name (sym h.path ∙ e ∙ k.path) in
      let w : h.within ≡ k.within = use-once h.within k.within h.kept k.kept h.used k.used h.at k.at s.0 in
      let o : k.used ≡ h.used = some_same (sym k.at.used ∙ ap (slice_get known) (sym w) ∙ h.at.used) in
      let there : slice_get (scope_elements_at c h.used) k.element ≡ Some k.scope_element = ap (λ (z : KnownInstance). slice_get (scope_elements_at c z) k.element) (sym o) ∙ k.scope_element_there in
      let element : h.element ≡ k.element = names-apart c nested sound h.used.scope h.used.visible h.used.enclosing h.at.is.stands h.element k.element h.scope_element k.scope_element h.scope_element_there there s.1 in
      let kept : h.kept ≡ k.kept = some_same (sym h.at.kept ∙ ap (slice_get instances) w ∙ k.at.kept) in
      let z : Some (part.PrimitiveElement n) ≡ Some (part.PrimitiveElement m) = sym h.part_there ∙ ap (λ (u : Instance). slice_get u.parts h.element) kept ∙ ap (slice_get k.kept.parts) element ∙ k.part_there in
      cc z

  module _ (all : List ScopeKept) (kept_all : AreAllScopes c all) (indices : List ConnectionIndex) (indexed : AreIndices all indices) where
    -- a step of a search is a written connection
    step-sound : (s : InstancePort) (n : Reached) (a : Node) → StepsTo instances indices s n → IsStart s a → (b : Node) × Leads c a b × Lies n b
    step-sound s n a st h =
        let x = h.used in
        let used : st.used ≡ h.kept = some_same (sym st.instance_is_there ∙ h.at.kept) in
        let ks = kept_all x.scope x.visible x.enclosing h.at.is.stands in
        let ix = index-at all indices (table_place c x.scope) ks.0 indexed ks.1 in
        let index : st.index ≡ ix.0 = some_same (sym st.index_there ∙ ap (λ (u : Instance). slice_get indices u.scope) used ∙ ap (slice_get indices) h.at.is.scope ∙ ix.1) in
        let w = ix.2.sound s.port st.to (subst (λ (i : ConnectionIndex). Contains (ends_in i.ends.entries s.port) st.to) index st.joined) in
        let j = written_connection-of (scope_elements_at c x) ks.0.connections (scope_connections c x.scope x.visible) w.written_connection ks.2.connections w.there in
        let k = w.written_connection in
        let d = written_connection-begins c nested sound x.scope x.visible x.enclosing h.at.is.stands x.path k j.0 j.1 j.2 in
        let e = written_connection-ends c nested sound x.scope x.visible x.enclosing h.at.is.stands x.path k j.0 j.1 j.2 in
        let from : Denotes (scope_elements_at c x) x.path k.from.owner j.0.out_port a =
        subst (λ p. Denotes (scope_elements_at c x) x.path k.from.owner p a) j.2.out_port (subst (λ (p : ScopePort). Denotes (scope_elements_at c x) x.path p.owner p.number a) w.from h.denotes) in
        let is : begin_node x.path j.0.from j.0.from.role j.0.out_port ≡ a =
        denotes-same (scope_elements_at c x) x.path k.from.owner j.0.out_port (begin_node x.path j.0.from j.0.from.role j.0.out_port) a d from in
        let b = end_node x.path j.0.to j.0.to.role j.0.in_port in
        let l = lies s.within h.kept x h.at k.to.owner k.in_port b (subst (λ p. Ends (scope_elements_at c x) x.path k.to.owner p b) (sym j.2.in_port) e) in (
          b,
          subst (λ z. Leads c z b) is (by_connection x.path x.scope x.visible j.0 h.at.is.leads j.1),
          subst (λ z. Lies z b) (ap (λ (p : ScopePort). reached_by h.kept p.owner p.number) (sym w.to) ∙ ap (λ u. reached_by u st.to.owner st.to.number) (sym used) ∙ sym st.is) l,
        )

    arrives-sound : (s : InstancePort) (i : FlatInput) (a : Node) → Arrives instances indices s i → IsStart s a → (f : PrimitiveElement) × (slice_get primitive_elements i.primitive_element ≡ Some f) × Leads c a (input_of f.path i.number)
    arrives-sound s i a (at_once _ _ st) h =
        let r = step-sound s (next.PrimitiveElement i) a st h in (r.2.0, r.2.1, subst (Leads c a) r.2.2 r.1)
    arrives-sound s i a (after_connection _ t _ st w) h =
        let r = step-sound s (next.Start t) a st h in
        let q = arrives-sound t i r.0 w r.2 in (q.0, q.1, further a r.0 (input_of q.0.path i.number) r.1 q.2)

    -- a written connection from a start is a step of a search
    step-complete : (s : InstancePort) (path : List (List ℕ)) (sc : Scope) (v : List Statement) (j : WrittenConnection) → LeadsTo c path sc v → Contains (scope_connections c sc v) j →
        IsStart s (begin_node path j.from j.from.role j.out_port) → (n : Reached) × StepsTo instances indices s n × Lies n (end_node path j.to j.to.role j.in_port)
    step-complete s path sc v j to m h =
        let x = h.used in
        let a = begin_node path j.from j.from.role j.out_port in
        let z = leads-stands c nested sound path sc v to in
        let ks = kept_all sc v z.0 z.1 in
        let k = kept-of (elements_of_scope c sc v) ks.0.connections (scope_connections c sc v) j ks.2.connections m in
        let d = written_connection-begins c nested sound sc v z.0 z.1 path k.0 j m k.2 in
        let p : path ≡ x.path = path-same (elements_of_scope c sc v) (scope_elements_at c x) path x.path k.0.from.owner s.port.owner j.out_port s.port.number a a d h.denotes refl in
        let q = leads-once c nested sound path x.path sc x.scope v x.visible to h.at.is.leads p in
        found s path sc v j to m h z.0 z.1 ks.0 ks.1 k.0 k.1 k.2 p q.0 q.1
      where
        found : (s : InstancePort) (path : List (List ℕ)) (sc : Scope) (v : List Statement) (j : WrittenConnection) → LeadsTo c path sc v → Contains (scope_connections c sc v) j →
            (h : IsStart s (begin_node path j.from j.from.role j.out_port)) (enclosing : List Scope) → Stands c sc v enclosing →
            (ks : ScopeKept) → slice_get all (table_place c sc) ≡ Some ks → (k : ConnectionKept) → Contains ks.connections k → IsWrittenConnection (elements_of_scope c sc v) k j →
            path ≡ h.used.path → sc ≡ h.used.scope → v ≡ h.used.visible →
            (n : Reached) × StepsTo instances indices s n × Lies n (end_node path j.to j.to.role j.in_port)
        found s path sc v j to m h enclosing st ks there k in_ks w p q r =
            let x = h.used in
            let a = begin_node path j.from j.from.role j.out_port in
            let b = end_node path j.to j.to.role j.in_port in
            let scope_elements : elements_of_scope c sc v ≡ scope_elements_at c x = ap (λ y. elements_of_scope c y v) q ∙ ap (λ y. elements_of_scope c x.scope y) r in
            let d : Denotes (scope_elements_at c x) x.path k.from.owner j.out_port a =
            subst (λ ls. Denotes ls x.path k.from.owner j.out_port a) scope_elements
            (subst (λ y. Denotes (elements_of_scope c sc v) y k.from.owner j.out_port a) p (written_connection-begins c nested sound sc v enclosing st path k j m w)) in
            let e : Ends (scope_elements_at c x) x.path k.to.owner j.in_port b =
            subst (λ ls. Ends ls x.path k.to.owner j.in_port b) scope_elements
            (subst (λ y. Ends (elements_of_scope c sc v) y k.to.owner j.in_port b) p (written_connection-ends c nested sound sc v enclosing st path k j m w)) in
            let o = denotes-once (scope_elements_at c x) x.path (names-apart c nested sound x.scope x.visible x.enclosing h.at.is.stands) s.port.owner k.from.owner s.port.number j.out_port a h.denotes d in
            let from : s.port ≡ scope_port k.from.owner k.out_port = ap (λ y. scope_port y s.port.number) o.0 ∙ ap (scope_port k.from.owner) (o.1 ∙ sym w.out_port) in
            let ix = index-at all indices (table_place c sc) ks indexed there in
            let to = scope_port k.to.owner k.in_port in
            let here = ix.2.complete s.port to (record { written_connection = k; there = in_ks; from = from; to = refl }) in (
              reached_by h.kept k.to.owner k.in_port,
              record {
                used = h.kept;
                instance_is_there = h.at.kept;
                index = ix.0;
                index_there = ap (slice_get indices) (h.at.is.scope ∙ ap (table_place c) (sym q)) ∙ ix.1;
                to = to;
                joined = here;
                is = refl;
              },
              lies s.within h.kept x h.at k.to.owner k.in_port b (subst (λ y. Ends (scope_elements_at c x) x.path k.to.owner y b) (sym w.in_port) e),
            )

    -- steps from a start
    pub data Comes : InstancePort → Reached → Type 0 where
      once : (s : InstancePort) (n : Reached) → StepsTo instances indices s n → Comes s n
      then_on : (s t : InstancePort) (n : Reached) → StepsTo instances indices s (next.Start t) → Comes t n → Comes s n

    comes-further : (s t : InstancePort) (m n : Reached) → Comes s m → m ≡ next.Start t → Comes t n → Comes s n
    comes-further s t m n (once _ _ st) e r = then_on s t n (subst (StepsTo instances indices s) e st) r
    comes-further s t m n (then_on _ u _ st w) e r = then_on s u n st (comes-further u t m n w e r)

    comes-arrives : (s : InstancePort) (n : Reached) (i : FlatInput) → Comes s n → n ≡ next.PrimitiveElement i → Arrives instances indices s i
    comes-arrives s n i (once _ _ st) e = at_once s i (subst (StepsTo instances indices s) e st)
    comes-arrives s n i (then_on _ t _ st w) e = after_connection s t i st (comes-arrives t n i w e)

    go-on : (s : InstancePort) (n : Reached) (b d : Node) → Comes s n → Lies n b → Leads c b d → ((t : InstancePort) → IsStart t b → (m : Reached) × Comes t m × Lies m d) → (m : Reached) × Comes s m × Lies m d
    go-on s (next.Start t) b d w l x f =
        let r = f t l in (r.0, comes-further s t (next.Start t) r.0 w refl r.1, r.2)
    go-on s (next.PrimitiveElement i) b d w l x f =
        absurd (nothing-behind c nested sound l.0.path i.number (λ t v. primitive_element-no-scope i.primitive_element l.0 (primitive_element-in i.primitive_element l.0 l.1) t v) b d x l.2)
    go-on s next.Nothing b d w l x f = absurd (nothing-out c nested sound l.0 b d x l.1)

    -- a chain of written connections is followed step by step
    follows : (a b : Node) → Leads c a b → (s : InstancePort) → IsStart s a → (n : Reached) × Comes s n × Lies n b
    follows _ _ (by_connection path sc v j to m) s h =
        let r = step-complete s path sc v j to m h in (r.0, once s r.0 r.1, r.2)
    follows _ _ (further a b d x y) s h =
        let r = follows a b x s h in go-on s r.0 b d r.1 r.2 y (λ t g. follows b d y t g)

    ends-primitive_element : (s : InstancePort) (n : Reached) (g : PrimitiveElement) (m number : ℕ) → slice_get primitive_elements m ≡ Some g → Comes s n → Lies n (input_of g.path number) → Arrives instances indices s (flat_input m number)
    ends-primitive_element s (next.Start t) g m number e w l = start-primitive_element t.port.owner l.denotes
      where
        start-primitive_element : (o : Owner) → Denotes (scope_elements_at c l.used) l.used.path o t.port.number (input_of g.path number) → Arrives instances indices s (flat_input m number)
        start-primitive_element owner.Input d =
            (let p : g.path ≡ l.used.path = cc d in
            absurd (primitive_element-no-scope m g (primitive_element-in m g e) l.used.scope l.used.visible (subst (λ y. LeadsTo c y l.used.scope l.used.visible) (sym p) l.at.is.leads)))
        start-primitive_element owner.Output d = absurd d
        start-primitive_element (owner.Element i) d = absurd (apart g.path (l.used.path ++ d.0.name ∷ []) number t.port.number d.2)
    ends-primitive_element s (next.PrimitiveElement i) g m number e w l =
        let p : g.path ≡ l.0.path = (let q = l.2 in cc q) in let q : number ≡ i.number = (let r = l.2 in cc r) in
        let o : m ≡ i.primitive_element = primitive_element-once m i.primitive_element g l.0 (primitive_element-in m g e) (primitive_element-in i.primitive_element l.0 l.1) p in
        comes-arrives s (next.PrimitiveElement i) (flat_input m number) w (ap (λ z. next.PrimitiveElement z) (ap (λ z. flat_input z i.number) (sym o) ∙ ap (flat_input m) (sym q)))
    ends-primitive_element s next.Nothing g m number e w l = absurd (apart g.path [] number l.0 l.1)

    pub connects-sound : (k : Connection) → Connects instances indices k → Joins c primitive_elements k
    connects-sound k h =
        let w = h.is_from.is_from in
        let scope_port = h.is_from.port in
        let r = at-kept h.within w.used w.there in
        let x = r.0 in
        let l = at-some (scope_elements_at c x) w.element (let s = slice_get_within w.used.parts w.element (part.PrimitiveElement k.from) w.is_primitive_element in omega (arith, s, r.1.is.parts.as_many)) in
        let p = r.1.is.parts.each w.element l.0 l.1 in
        let same : p.0 ≡ part.PrimitiveElement k.from = some_same (sym p.1 ∙ w.is_primitive_element) in
        let f = primitive_element-part h.within w.used x r.1 w.element l.0 l.1 k.from (subst (IsPart instances places h.within w.element l.0) same p.2) in
        let a = output_of f.primitive_element.path scope_port.number in
        let begin : IsStart (instance_port h.within scope_port) a = record {
          kept = w.used;
          used = x;
          at = r.1;
          denotes = subst (λ o. Denotes (scope_elements_at c x) x.path o scope_port.number a) (sym w.owner) (l.0, l.1, ap (λ z. output_of z scope_port.number) f.path);
        } in
        let q = arrives-sound (instance_port h.within scope_port) w.is_from.to a w.is_from.arrives begin in
        let is = w.is_from.is in
        record {
          from = f.primitive_element;
          from_there = f.there;
          to = q.0;
          to_there = ap (λ (z : Connection). slice_get primitive_elements z.to) is ∙ q.1;
          leads = subst (λ y. Leads c (output_of f.primitive_element.path y) (input_of q.0.path k.in_port)) (ap (λ (z : Connection). z.out_port) (sym is))
              (subst (λ y. Leads c a (input_of q.0.path y)) (ap (λ (z : Connection). z.in_port) (sym is)) q.2);
        }

    pub connects-complete : (k : Connection) → Joins c primitive_elements k → Connects instances indices k
    connects-complete k h =
        let f = primitive_element-in k.from h.from h.from_there in
        let p = scope_port (owner.Element f.element) k.out_port in
        let s = instance_port f.within p in
        let a = output_of h.from.path k.out_port in
        let begin : IsStart s a = record { kept = f.kept; used = f.used; at = f.at; denotes = (f.scope_element, f.scope_element_there, ap (λ z. output_of z k.out_port) f.path) } in
        let r = follows a (input_of h.to.path k.in_port) h.leads s begin in
        record {
          within = f.within;
          is_from = record {
            port = p;
            is_from = record {
              used = f.kept;
              there = f.at.kept;
              element = f.element;
              owner = refl;
              is_primitive_element = f.part_there;
              is_from = record { to = flat_input k.to k.in_port; arrives = ends-primitive_element s r.0 h.to k.to k.in_port h.to_there r.1 r.2; is = refl };
            };
          };
        }
