-- One step of the walk over the instances.
use Rattle.std.proofs.Common.{◌≡◌, ◌⊎◌, inl, inr, ℕ, ◌+◌, ◌-◌, ◌*◌, ◌<◌, ◌≤◌, List, [], ◌∷◌, ◌++◌, map, length, Bool, true, false, Option, Some, None, refl, sym, ap, ◌∙◌, subst, arith}
use Rattle.std.specs.List.{slice_get, slice_set}
use Rattle.std.proofs.lemmas.List.{append-nil, length-set, length_push}
use Rattle.click_text.specs.declared.syntax.Config.{Config}
use Rattle.click_scopes.specs.Classes.{compound}
use Rattle.click_scopes.specs.Elements.{ScopeElement}
use Rattle.click_expand.specs.Instances.{PrimitiveElement}
use Rattle.click_scopes.specs.kept.Nesting.{IsNested}
use Rattle.click_scopes.specs.kept.AllScopes.{AreAllScopes}
use Rattle.click_scopes.specs.kept.Lookups.{elements_by}
use Rattle.click_scopes.specs.kept.Tables.{meaning_by, scope_element_of}
use Rattle.click_expand.specs.kept.InstanceWalk.{next_class, next_of_scope_element, next_in, with_part, instance_without_parts, element_place, AreInward, AddsFlatElement, IsEntered, IsLeft, IsWalkStepBy, IsWalkStep}
use Rattle.click_scopes.specs.declared.classes.ResolvedClass.{ResolvedClass}
use Rattle.click_scopes.specs.declared.classes.ResolvedClass.TheVariants as class
use Rattle.click_scopes.specs.declared.scope_elements.ScopeElement.{ScopeElement as ScopeElementKept}
use Rattle.click_scopes.specs.declared.scopes.Scope.{Scope as ScopeKept}
use Rattle.click_expand.specs.declared.instances.tree.InstancePart.TheVariants as part
use Rattle.click_expand.specs.declared.instances.tree.Place.{Place}
use Rattle.click_expand.specs.declared.instances.tree.Instance.{Instance}
use Rattle.click_expand.specs.declared.instances.tree.NextElement.{NextElement}
use Rattle.click_expand.specs.declared.instances.tree.NextElement.TheVariants as next
use Rattle.click_expand.specs.declared.instances.tree.Walk.{Walk}
use Rattle.click_expand.proofs.OfInstances.LexicalParents.{same_some, IsLexicalParentKept}
use Rattle.click_expand.proofs.OfInstances.Frames.{Walking, IsWalked, at-so_far, at-within, walking-primitive_element}
use Rattle.click_expand.proofs.OfInstances.WalkEntry.{walking-inner}
use Rattle.click_expand.proofs.OfInstances.WalkExit.{walking-back, walked}

-- what comes next is the first of the elements that are still to come
abbrev pub IsNextOf : NextElement → List ScopeElement → Type 0
IsNextOf (next.Inner b) ls = (l : ScopeElement) × (rest : List ScopeElement) × (ls ≡ l ∷ rest) × (l.meaning ≡ Some (compound b))
IsNextOf next.Flat ls = (l : ScopeElement) × (rest : List ScopeElement) × (ls ≡ l ∷ rest) × ((b : ℕ) → l.meaning ≡ Some (compound b) → ⊥)
IsNextOf next.Nothing ls = ls ≡ []

next-of-class : (o : Option ResolvedClass) (l : ScopeElement) (rest : List ScopeElement) → l.meaning ≡ meaning_by o → IsNextOf (next_class o) (l ∷ rest)
next-of-class None l rest e = (l, rest, refl, λ b h. let x : Some (compound b) ≡ None = sym h ∙ e in cc x)
next-of-class (Some (class.Primitive s)) l rest e = (l, rest, refl, λ b h. let x = sym h ∙ e in cc x)
next-of-class (Some (class.Compound b)) l rest e = (l, rest, refl, e)

next-kept : (text : List ℕ) (vs : List ScopeElementKept) (done ls : List ScopeElement) → map (scope_element_of text) vs ≡ done ++ ls → IsNextOf (next_of_scope_element (slice_get vs (length done))) ls
next-kept text [] [] ls e = sym e
next-kept text (v ∷ vs) [] ls e = subst (IsNextOf (next_class v.class)) e (next-of-class v.class (scope_element_of text v) (map (scope_element_of text) vs) refl)
next-kept text [] (d ∷ done) ls e = absurd (cc e)
next-kept text (v ∷ vs) (d ∷ done) ls e = next-kept text vs done ls (let t : map (scope_element_of text) vs ≡ done ++ ls = cc e in t)

-- the walk goes on to a new part, or back to an instance with a lower index
abbrev pub IsForward : Walk → Walk → Type 0
IsForward old new =
    (length new.instances.items + length new.primitive_elements.items ≡ length old.instances.items + length old.primitive_elements.items + 1)
    ⊎ ((length new.instances.items ≡ length old.instances.items) × (length new.primitive_elements.items ≡ length old.primitive_elements.items) × (new.place < old.place))

abbrev pub IsAfter : Config → Bool → Walk → List PrimitiveElement → ℕ → Type 0
IsAfter c true w primitive_elements n = Walking c w.instances.items w.primitive_elements.items w.place primitive_elements n
IsAfter c false w primitive_elements n = IsWalked c w.instances.items w.primitive_elements.items primitive_elements

abbrev pub IsMoved : Bool → Walk → Walk → Type 0
IsMoved true old new = IsForward old new
IsMoved false old new = Unit {0}

module _ (c : Config) (nested : IsNested c) (ks : List ScopeKept) (scopes : AreAllScopes c ks) where
  module _ (old new : Walk) (primitive_elements : List PrimitiveElement) (n : ℕ) (w : Walking c old.instances.items old.primitive_elements.items old.place primitive_elements n) where
    to-primitive_element : (l : ScopeElement) (ls : List ScopeElement) → w.frame.rest ≡ l ∷ ls → ((b : ℕ) → l.meaning ≡ Some (compound b) → ⊥) → AddsFlatElement old new w.frame.kept → IsAfter c true new primitive_elements n × IsForward old new
    to-primitive_element l ls e d h =
        let us : slice_set old.instances.items old.place (with_part w.frame.kept (part.PrimitiveElement (length old.primitive_elements.items))) ++ [] ≡ new.instances.items =
        append-nil (slice_set old.instances.items old.place (with_part w.frame.kept (part.PrimitiveElement (length old.primitive_elements.items)))) ∙ sym h.instances in
        let a : length new.instances.items ≡ length old.instances.items = ap length h.instances ∙ length-set old.instances.items old.place (with_part w.frame.kept (part.PrimitiveElement (length old.primitive_elements.items))) in
        let b : length new.primitive_elements.items ≡ length old.primitive_elements.items + 1 = ap length h.primitive_elements ∙ length_push old.primitive_elements.items (element_place old.place (length w.frame.kept.parts)) in (
          subst (λ u. Walking c u new.primitive_elements.items new.place primitive_elements n) us
              (subst (λ p. Walking c (slice_set old.instances.items old.place (with_part w.frame.kept (part.PrimitiveElement (length old.primitive_elements.items))) ++ []) p new.place primitive_elements n) (sym h.primitive_elements)
              (subst (λ x. Walking c (slice_set old.instances.items old.place (with_part w.frame.kept (part.PrimitiveElement (length old.primitive_elements.items))) ++ [])
              (old.primitive_elements.items ++ element_place old.place (length w.frame.kept.parts) ∷ []) x primitive_elements n) (sym h.place)
              (walking-primitive_element c old.instances.items old.primitive_elements.items old.place primitive_elements n w l ls e d))),
          inl (omega (arith, a, b)),
        )

    to-inner : (b : ℕ) (l : ScopeElement) (ls : List ScopeElement) → w.frame.rest ≡ l ∷ ls → l.meaning ≡ Some (compound b) → IsEntered ks b old new w.frame.kept → IsAfter c true new primitive_elements n × IsForward old new
    to-inner b l ls e d h =
        let fresh : Instance = instance_without_parts b (Some (element_place old.place (length w.frame.kept.parts))) (Some h.lexical_parent) in
        let a : length new.instances.items ≡ length old.instances.items + 1 =
        ap length h.instances ∙ length_push (slice_set old.instances.items old.place (with_part w.frame.kept (part.Inner (length old.instances.items)))) fresh
        ∙ ap (λ x. x + 1) (length-set old.instances.items old.place (with_part w.frame.kept (part.Inner (length old.instances.items)))) in
        let g : length new.primitive_elements.items ≡ length old.primitive_elements.items = ap length h.primitive_elements in (
          subst (λ u. Walking c u new.primitive_elements.items new.place primitive_elements n) (sym h.instances)
              (subst (λ p. Walking c (slice_set old.instances.items old.place (with_part w.frame.kept (part.Inner (length old.instances.items))) ++ fresh ∷ []) p new.place primitive_elements n) (sym h.primitive_elements)
              (subst (λ x. Walking c (slice_set old.instances.items old.place (with_part w.frame.kept (part.Inner (length old.instances.items))) ++ fresh ∷ []) old.primitive_elements.items x primitive_elements n) (sym h.place)
              (walking-inner c nested ks scopes old.instances.items old.primitive_elements.items old.place primitive_elements n w b h.lexical_parent l ls e d h.lexical_parent_in))),
          inl (omega (arith, a, g)),
        )

    to-enclosing : (o : Option Place) (more : Bool) → w.frame.kept.enclosing ≡ o → w.frame.rest ≡ [] → IsLeft o old new more → IsAfter c more new primitive_elements n × IsMoved more old new
    to-enclosing None more e none h =
        let f : IsWalked c new.instances.items new.primitive_elements.items primitive_elements =
        subst (λ u. IsWalked c u new.primitive_elements.items primitive_elements) (sym h.1) (subst (λ p. IsWalked c old.instances.items p primitive_elements) (sym h.2) (walked c old.instances.items old.primitive_elements.items old.place primitive_elements n w none e)) in
        subst (λ m. IsAfter c m new primitive_elements n × IsMoved m old new) (sym h.0) (f, tt)
    to-enclosing (Some p) more e none h =
        let r = walking-back c old.instances.items old.primitive_elements.items old.place primitive_elements n w none p e in
        let f : Walking c new.instances.items new.primitive_elements.items new.place primitive_elements n =
        subst (λ u. Walking c u new.primitive_elements.items new.place primitive_elements n) (sym h.1)
        (subst (λ q. Walking c old.instances.items q new.place primitive_elements n) (sym h.2) (subst (λ x. Walking c old.instances.items old.primitive_elements.items x primitive_elements n) (sym h.3) r.walking)) in
        let below = r.below in let at = h.3 in
        subst (λ m. IsAfter c m new primitive_elements n × IsMoved m old new) (sym h.0) (f, inr (ap length h.1, ap length h.2, omega (arith, below, at)))

    step-by : (q : NextElement) (more : Bool) → IsNextOf q w.frame.rest → IsWalkStepBy ks old new w.frame.kept q more → IsAfter c more new primitive_elements n × IsMoved more old new
    step-by (next.Inner b) more k h = subst (λ m. IsAfter c m new primitive_elements n × IsMoved m old new) (sym h.0) (to-inner b k.0 k.1 k.2 k.3 h.1)
    step-by next.Flat more k h = subst (λ m. IsAfter c m new primitive_elements n × IsMoved m old new) (sym h.0) (to-primitive_element k.0 k.1 k.2 k.3 h.1)
    step-by next.Nothing more k h = to-enclosing w.frame.kept.enclosing more refl k h

    next-read : IsNextOf (next_in (elements_by (slice_get ks w.frame.kept.scope)) (length w.frame.kept.parts)) w.frame.rest
    next-read =
        let x = w.frame.used in
        let s = at-so_far c old.instances.items old.primitive_elements.items old.place primitive_elements n w in
        let r = scopes x.scope x.visible x.enclosing s.stands in
        let e : slice_get ks w.frame.kept.scope ≡ Some r.0 = ap (slice_get ks) s.scope ∙ r.1 in
        subst (λ o. IsNextOf (next_in (elements_by o) (length w.frame.kept.parts)) w.frame.rest) (sym e)
        (subst (λ i. IsNextOf (next_in r.0.elements.items i) w.frame.rest) (sym w.frame.as_far) (next-kept c.text r.0.elements.items w.frame.done w.frame.rest (r.2.elements ∙ w.frame.splits)))

    pub stepped : (more : Bool) → IsWalkStep ks old new more → IsAfter c more new primitive_elements n × IsMoved more old new
    stepped more h =
        let same : h.0 ≡ w.frame.kept = same_some (sym h.1 ∙ w.frame.kept_there) in
        step-by (next_in (elements_by (slice_get ks w.frame.kept.scope)) (length w.frame.kept.parts)) more next-read
        (subst (λ (k : Instance). IsWalkStepBy ks old new k (next_in (elements_by (slice_get ks k.scope)) (length k.parts)) more) same h.2)

  -- the lexical parents of the instances have lower indices
  pub inward : (old : Walk) (primitive_elements : List PrimitiveElement) (n : ℕ) → Walking c old.instances.items old.primitive_elements.items old.place primitive_elements n → AreInward old.instances.items
  inward old primitive_elements n w u k v e h =
      let r = w.kept.each u k e in
      let lexical_parent : IsLexicalParentKept c w.known u r.0 (Some v) = subst (IsLexicalParentKept c w.known u r.0) h r.2.lexical_parent in
      lexical_parent.0

-- how much of the walk is left
abbrev pub rank : ℕ → Walk → ℕ
rank paths w = (paths + 1 - (length w.instances.items + length w.primitive_elements.items)) * (paths + 2) + w.place

rank-more : (p a b x y : ℕ) → b ≡ a + 1 → b ≤ p + 1 → y < p + 2 → (p + 1 - b) * (p + 2) + y < (p + 1 - a) * (p + 2) + x
rank-more p a b x y e l m =
    let r : p + 1 - a ≡ p + 1 - b + 1 = omega (arith, e, l) in
    let s : (p + 1 - a) * (p + 2) ≡ (p + 1 - b + 1) * (p + 2) = ap (λ t. t * (p + 2)) r in
    let t : (p + 1 - b + 1) * (p + 2) ≡ (p + 1 - b) * (p + 2) + (p + 2) = times-more (p + 1 - b) (p + 2) in
    larger ((p + 1 - b) * (p + 2)) ((p + 1 - a) * (p + 2)) (p + 2) x y (s ∙ t) m
  where
    times-more : (k q : ℕ) → (k + 1) * q ≡ k * q + q
    times-more k q = omega arith

    larger : (k j q x y : ℕ) → j ≡ k + q → y < q → k + y < j + x
    larger k j q x y e m = omega (arith, e, m)

pub rank-forward : (c : Config) (paths : ℕ) (old new : Walk) (primitive_elements : List PrimitiveElement) → Walking c new.instances.items new.primitive_elements.items new.place primitive_elements paths → IsForward old new → rank paths new < rank paths old
rank-forward c paths old new primitive_elements w (inl e) =
    let count = w.count in let at = at-within c new.instances.items new.primitive_elements.items new.place primitive_elements paths w in
    rank-more paths (length old.instances.items + length old.primitive_elements.items) (length new.instances.items + length new.primitive_elements.items) old.place new.place e (omega (arith, count)) (omega (arith, count, at))
rank-forward c paths old new primitive_elements w (inr h) =
    let same : length new.instances.items + length new.primitive_elements.items ≡ length old.instances.items + length old.primitive_elements.items =
    ap (λ x. x + length new.primitive_elements.items) h.0 ∙ ap (λ x. length old.instances.items + x) h.1 in
    let l = h.2 in
    larger ((paths + 1 - (length new.instances.items + length new.primitive_elements.items)) * (paths + 2)) ((paths + 1 - (length old.instances.items + length old.primitive_elements.items)) * (paths + 2))
    old.place new.place (ap (λ x. (paths + 1 - x) * (paths + 2)) same) l
  where
    larger : (k j x y : ℕ) → k ≡ j → y < x → k + y < j + x
    larger k j x y e m = omega (arith, e, m)

-- the measure of the loop
abbrev pub left : Bool → ℕ → Walk → ℕ
left true paths w = rank paths w + 1
left false paths w = 0

pub left-less : (c : Config) (more : Bool) (paths : ℕ) (old new : Walk) (primitive_elements : List PrimitiveElement) → IsAfter c more new primitive_elements paths → IsMoved more old new → left more paths new < left true paths old
left-less c true paths old new primitive_elements w h = let l = rank-forward c paths old new primitive_elements w h in omega (arith, l)
left-less c false paths old new primitive_elements w h = omega arith
