-- Each element of an instance is a flat element, or the instance of its body.
use Rattle.std.proofs.Common.{◌≡◌, ℕ, zero, suc, List, [], ◌∷◌, map, Option, Some, None, refl, sym, ap, ◌∙◌, subst, arith}
use Rattle.std.specs.List.{slice_get}
use Rattle.std.proofs.lemmas.Option.{slice_get_within, none-some}
use Rattle.click_base.specs.declared.class.Class.{Class}
use Rattle.click_text.specs.declared.syntax.Config.{Config}
use Rattle.click_scopes.specs.Classes.{primitive, compound}
use Rattle.click_scopes.specs.Elements.{ScopeElement}
use Rattle.click_expand.specs.Instances.{PrimitiveElement}
use Rattle.click_scopes.specs.kept.AllScopes.{AreAllScopes}
use Rattle.click_scopes.specs.kept.Scoped.{table_place}
use Rattle.click_scopes.specs.kept.Tables.{meaning_by, scope_element_of}
use Rattle.click_expand.specs.kept.Passthrough.{AreNested}
use Rattle.click_expand.specs.kept.KnownInstances.{KnownInstance, scope_elements_at, IsEnclosing, IsPart, IsInstance, AreInstances}
use Rattle.click_scopes.specs.declared.classes.ResolvedClass.{ResolvedClass}
use Rattle.click_scopes.specs.declared.classes.ResolvedClass.TheVariants as class
use Rattle.click_scopes.specs.declared.scope_elements.ScopeElement.{ScopeElement as ScopeElementKept}
use Rattle.click_scopes.specs.kept.Lookups.{class_body, scope_element_body, scope_body, body_at}
use Rattle.click_scopes.specs.declared.scopes.Scope.{Scope as ScopeKept}
use Rattle.click_expand.specs.declared.instances.tree.InstancePart.{InstancePart}
use Rattle.click_expand.specs.declared.instances.tree.InstancePart.TheVariants as part
use Rattle.click_expand.specs.declared.instances.tree.Place.{Place}
use Rattle.click_expand.specs.declared.instances.tree.Instance.{Instance}
use Rattle.click_scopes.proofs.OfLists.ListParts.{map-there}
use Rattle.click_scopes.proofs.OfElements.ElementBodies.{means-compound}
use Rattle.click_expand.proofs.OfConnections.Chains.{some_same, at-some}

-- a class of the router means no body
primitive-body : (o : Option ResolvedClass) (w : Class) → meaning_by o ≡ Some (primitive w) → class_body o ≡ None
primitive-body None w h = absurd (cc h)
primitive-body (Some (class.Primitive s)) w h = refl
primitive-body (Some (class.Compound d)) w h = absurd (cc h)

module _ (c : Config) (scopes : List ScopeKept) (all : AreAllScopes c scopes) (instances : List Instance) (places : List Place) (known : List KnownInstance) (primitive_elements : List PrimitiveElement) (are : AreInstances c instances places known primitive_elements) where
  -- an element of a known instance means the same body as the stored one
  record IsBodyAt (x : KnownInstance) (s i : ℕ) (l : ScopeElement) : Type 0 where
    pub of_compound : (b : ℕ) → l.meaning ≡ Some (compound b) → body_at scopes s i ≡ Some b
    pub of_primitive : (w : Class) → l.meaning ≡ Some (primitive w) → body_at scopes s i ≡ None

  body-of : (u : ℕ) (k : Instance) (x : KnownInstance) → IsInstance c instances places known u k x → (i : ℕ) (l : ScopeElement) → slice_get (scope_elements_at c x) i ≡ Some l → IsBodyAt x k.scope i l
  body-of u k x h i l there =
      let ls = all x.scope x.visible x.enclosing h.stands in
      let r = map-there (scope_element_of c.text) ls.0.elements.items i l (ap (λ zs. slice_get zs i) ls.2.elements ∙ there) in
      let is : body_at scopes k.scope i ≡ class_body r.0.class = ap (scope_body i) (ap (slice_get scopes) h.scope ∙ ls.1) ∙ ap scope_element_body r.1 in
      let means : meaning_by r.0.class ≡ l.meaning = ap (λ (z : ScopeElement). z.meaning) r.2 in
      record {
        of_compound = λ b m. is ∙ means-compound r.0.class b (means ∙ m);
        of_primitive = λ w m. is ∙ primitive-body r.0.class w (means ∙ m);
      }

  -- the element of a part
  record HasElement (u i : ℕ) (k : Instance) (x : KnownInstance) (p : InstancePart) : Type 0 where
    pub scope_element : ScopeElement
    pub there : slice_get (scope_elements_at c x) i ≡ Some scope_element
    pub is : IsPart instances places u i scope_element p

  element-of : (u : ℕ) (k : Instance) (x : KnownInstance) → IsInstance c instances places known u k x → (i : ℕ) (p : InstancePart) → slice_get k.parts i ≡ Some p → HasElement u i k x p
  element-of u k x h i p e =
      let n = slice_get_within k.parts i p e in
      let l = at-some (scope_elements_at c x) i (omega (arith, n, h.parts.as_many)) in
      let r = h.parts.each i l.0 l.1 in
      let here : r.0 ≡ p = some_same (sym r.1 ∙ e) in
      record { scope_element = l.0; there = l.1; is = subst (IsPart instances places u i l.0) here r.2 }

  primitive_element-body : (u i l : ℕ) (k : Instance) → slice_get instances u ≡ Some k → slice_get k.parts i ≡ Some (part.PrimitiveElement l) → body_at scopes k.scope i ≡ None
  primitive_element-body u i l k there e =
      let r = are.each u k there in
      let h = element-of u k r.0 r.2 i (part.PrimitiveElement l) e in
      let w = h.is in
      (body-of u k r.0 r.2 i h.scope_element h.there).of_primitive w.0 w.1

  inner-body : (u i v : ℕ) (k : Instance) → slice_get instances u ≡ Some k → slice_get k.parts i ≡ Some (part.Inner v) →
      (m : Instance) × (slice_get instances v ≡ Some m) × ((p : Place) × (m.enclosing ≡ Some p) × (p.within ≡ u) × (p.element ≡ i)) × (body_at scopes k.scope i ≡ Some m.scope)
  inner-body u i v k there e =
      let r = are.each u k there in
      let h = element-of u k r.0 r.2 i (part.Inner v) e in
      let w = h.is in
      let m = w.2.0 in
      let p = w.2.2.0 in
      let y = are.each v m w.2.1 in
      let a = subst (IsEnclosing c known v y.0) w.2.2.1 y.2.enclosing in
      let o : a.1.0 ≡ r.0 = some_same (sym a.1.1 ∙ ap (slice_get known) w.2.2.2 ∙ r.1) in
      let inner = a.1.2 in
      let same : inner.scope_element ≡ h.scope_element =
      some_same (sym inner.there ∙ ap (λ (z : KnownInstance). slice_get (scope_elements_at c z) p.element) o ∙ ap (slice_get (scope_elements_at c r.0)) w.2.2.3 ∙ h.there) in
      let meaning : h.scope_element.meaning ≡ Some (compound inner.body) = ap (λ (z : ScopeElement). z.meaning) (sym same) ∙ inner.meaning in
      let scope : m.scope ≡ inner.body = y.2.scope ∙ ap (table_place c) inner.scope in
      (m, w.2.1, w.2.2, (body-of u k r.0 r.2 i h.scope_element h.there).of_compound inner.body meaning ∙ ap (λ z. Some z) (sym scope))

  -- an element with a body is not of the router's classes
  with-body : (u i b : ℕ) (k : Instance) → slice_get instances u ≡ Some k → body_at scopes k.scope i ≡ Some b → (p : InstancePart) → slice_get k.parts i ≡ Some p → (v : ℕ) × (slice_get k.parts i ≡ Some (part.Inner v))
  with-body u i b k there is (part.PrimitiveElement l) e = absurd (none-some b (sym (primitive_element-body u i l k there e) ∙ is))
  with-body u i b k there is (part.Inner v) e = (v, e)

  -- if there is a body, there is an element
  scope_element-with : (i b : ℕ) (ls : List ScopeElementKept) → scope_element_body (slice_get ls i) ≡ Some b → (l : ScopeElementKept) × (slice_get ls i ≡ Some l)
  scope_element-with i b ls is = by (slice_get ls i) refl is
    where
      by : (o : Option ScopeElementKept) → slice_get ls i ≡ o → scope_element_body o ≡ Some b → (l : ScopeElementKept) × (slice_get ls i ≡ Some l)
      by None e f = absurd (none-some b f)
      by (Some l) e f = (l, e)

  part-there : (u i b : ℕ) (k : Instance) → slice_get instances u ≡ Some k → body_at scopes k.scope i ≡ Some b → (v : ℕ) × (slice_get k.parts i ≡ Some (part.Inner v))
  part-there u i b k there is =
      let r = are.each u k there in
      let x = r.0 in
      let ls = all x.scope x.visible x.enclosing r.2.stands in
      let l = scope_element-with i b ls.0.elements.items (sym (ap (scope_body i) (ap (slice_get scopes) r.2.scope ∙ ls.1)) ∙ is) in
      let d = mapped c.text ls.0.elements.items i l.0 l.1 in
      let q = r.2.parts.each i (scope_element_of c.text l.0) (sym (ap (λ zs. slice_get zs i) ls.2.elements) ∙ d) in
      with-body u i b k there is q.0 q.1
    where
      mapped : (text : List ℕ) (xs : List ScopeElementKept) (j : ℕ) (l : ScopeElementKept) → slice_get xs j ≡ Some l → slice_get (map (scope_element_of text) xs) j ≡ Some (scope_element_of text l)
      mapped text [] j l h = absurd (cc h)
      mapped text (z ∷ xs) zero l h = ap (λ y. Some (scope_element_of text y)) (some_same h)
      mapped text (z ∷ xs) (suc j) l h = mapped text xs j l h

  pub instances-nested : AreNested (body_at scopes) instances
  instances-nested = record { primitive_element = primitive_element-body; inner = inner-body; part = part-there }
