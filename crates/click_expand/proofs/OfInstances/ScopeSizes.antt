-- The sizes of scopes, one after another by their indices.
use Rattle.std.proofs.Common.{◌≡◌, ◌⊎◌, inl, inr, ℕ, suc, ◌+◌, ◌<◌, ◌≤◌, min, List, [], ◌∷◌, ◌++◌, map, length, Option, Some, None, refl, sym, ap, ◌∙◌, subst, append_assoc, arith}
use Rattle.std.specs.List.{slice_get, sum_by}
use Rattle.std.proofs.lemmas.Bool.{cases_order}
use Rattle.std.proofs.lemmas.Option.{slice_get_within}
use Rattle.std.proofs.lemmas.List.{length-append, length_push}
use Rattle.std.proofs.lemmas.List.Sums.{sum_by-cons}
use Rattle.click_text.specs.declared.syntax.Statement.{Statement}
use Rattle.click_text.specs.declared.syntax.Config.{Config}
use Rattle.click_scopes.specs.Scopes.{Scope, whole, inside, Stands, at_top}
use Rattle.click_scopes.specs.Classes.{Meaning, primitive, compound}
use Rattle.click_scopes.specs.Elements.{ScopeElement}
use Rattle.click_scopes.specs.Faults.{elements_of_scope}
use Rattle.click_expand.specs.Parameters.{Bindings}
use Rattle.click_expand.specs.Instances.{PrimitiveElement, ArePrimitiveElements}
use Rattle.click_scopes.specs.kept.Nesting.{IsNested}
use Rattle.click_scopes.specs.kept.Scoped.{table_place}
use Rattle.click_scopes.specs.kept.AllScopes.{AreAllScopes}
use Rattle.click_scopes.specs.kept.Tables.{meaning_by, scope_element_of}
use Rattle.click_expand.specs.Flat.{most_elements, most_paths}
use Rattle.click_expand.specs.kept.Sizes.{IsSize, IsSizeOf}
use Rattle.click_expand.specs.kept.Counted.{size_or, size_inside, elements_in, paths_in, IsSum}
use Rattle.click_scopes.specs.declared.classes.ResolvedClass.{ResolvedClass}
use Rattle.click_scopes.specs.declared.classes.ResolvedClass.TheVariants as class
use Rattle.click_scopes.specs.declared.scope_elements.ScopeElement.{ScopeElement as ScopeElementKept}
use Rattle.click_scopes.specs.declared.scopes.Scope.{Scope as ScopeKept}
use Rattle.click_expand.specs.declared.instances.sizes.Size.{Size}
use Rattle.click_scopes.proofs.OfLists.StatementTables.{slice_get-more, slice_get-last}
use Rattle.click_scopes.proofs.OfBodies.EarlierBodies.{founded-at}
use Rattle.click_expand.proofs.OfInstances.LexicalParents.{same_some}
use Rattle.click_expand.proofs.OfInstances.Frames.{PrimitiveElementCase, InnerCase, primitive_element-case, inner-case, end-case, next-there}

cap-one : (a y m : ℕ) → min a m ≡ min y m → min (a + 1) m ≡ min (1 + y) m
cap-one a y m e = omega (arith, e)

cap-sum : (a b p y m : ℕ) → p ≡ min a m → min b m ≡ min y m → min (a + b) m ≡ min (p + y) m
cap-sum a b p y m e f = omega (arith, e, f)

cap-path : (a b p y m : ℕ) → p ≡ min a m → min b m ≡ min y m → min (a + b + 1) m ≡ min (p + 1 + y) m
cap-path a b p y m e f = omega (arith, e, f)

module _ (c : Config) where
  abbrev pub IsScopeSize : Scope → List Statement → List Scope → Size → Type 0
  IsScopeSize s visible enclosing size =
      (path : List (List ℕ)) (bindings : Bindings) (primitive_elements : List PrimitiveElement) (n : ℕ) → ArePrimitiveElements c s enclosing path bindings (elements_of_scope c s visible) primitive_elements n → IsSize primitive_elements n size

  -- the scopes with lower indices have their sizes
  abbrev pub AreWeighed : List Size → Type 0
  AreWeighed sizes =
      (s : Scope) (visible : List Statement) (enclosing : List Scope) → Stands c s visible enclosing → table_place c s < length sizes →
      (size : Size) × (slice_get sizes (table_place c s) ≡ Some size) × IsScopeSize s visible enclosing size

  -- the number of flat elements of some elements, and the number of paths to them
  pub record AreCounted (sizes : List Size) (vs : List ScopeElementKept) (primitive_elements : List PrimitiveElement) (n : ℕ) : Type 0 where
    pub elements : min (length primitive_elements) (most_elements + 1) ≡ min (sum_by (elements_in sizes) vs) (most_elements + 1)
    pub all_paths : min n (most_paths + 1) ≡ min (sum_by (paths_in sizes) vs) (most_paths + 1)

  module _ (nested : IsNested c) (sizes : List Size) (weighed : AreWeighed sizes) (s : Scope) (visible : List Statement) (enclosing : List Scope) (stands : Stands c s visible enclosing)
      (next : table_place c s ≡ length sizes) (path : List (List ℕ)) (bindings : Bindings) where
    -- an element of one of the router's classes
    counted-primitive_element : (v : ScopeElementKept) (vs : List ScopeElementKept) (primitive_elements : List PrimitiveElement) (n : ℕ) → (size_inside sizes v.class).elements ≡ 1 → (size_inside sizes v.class).paths ≡ 0 →
        (r : PrimitiveElementCase c s enclosing path bindings (scope_element_of c.text v) (map (scope_element_of c.text) vs) primitive_elements n) → AreCounted sizes vs r.primitive_elements r.m → AreCounted sizes (v ∷ vs) primitive_elements n
    counted-primitive_element v vs primitive_elements n e f r h = record {
      elements =
          ap (λ x. min x (most_elements + 1)) (ap length r.is ∙ length-one (length r.primitive_elements)) ∙ cap-one (length r.primitive_elements) (sum_by (elements_in sizes) vs) (most_elements + 1) h.elements
          ∙ ap (λ x. min x (most_elements + 1)) (ap (λ x. x + sum_by (elements_in sizes) vs) (sym e) ∙ sym (sum_by-cons (elements_in sizes) v vs));
      all_paths =
          ap (λ x. min x (most_paths + 1)) r.count ∙ cap-one r.m (sum_by (paths_in sizes) vs) (most_paths + 1) h.all_paths
          ∙ ap (λ x. min x (most_paths + 1)) (one-path (size_inside sizes v.class).paths (sum_by (paths_in sizes) vs) f ∙ sym (sum_by-cons (paths_in sizes) v vs));
    }
      where
        length-one : (k : ℕ) → suc k ≡ k + 1
        length-one k = omega arith

        one-path : (p y : ℕ) → p ≡ 0 → 1 + y ≡ p + 1 + y
        one-path p y e = omega (arith, e)

    -- an element of a compound
    counted-inner : (v : ScopeElementKept) (vs : List ScopeElementKept) (b : ℕ) (primitive_elements : List PrimitiveElement) (n : ℕ) (size : Size) → size_inside sizes v.class ≡ size →
        (r : InnerCase c s enclosing path bindings (scope_element_of c.text v) (map (scope_element_of c.text) vs) b primitive_elements n) → IsSize r.inner r.m size → AreCounted sizes vs r.primitive_elements r.k → AreCounted sizes (v ∷ vs) primitive_elements n
    counted-inner v vs b primitive_elements n size e r g h = record {
      elements =
          ap (λ x. min x (most_elements + 1)) (ap length r.is ∙ length-append r.inner r.primitive_elements)
          ∙ cap-sum (length r.inner) (length r.primitive_elements) size.elements (sum_by (elements_in sizes) vs) (most_elements + 1) g.elements h.elements
          ∙ ap (λ x. min x (most_elements + 1)) (ap (λ (x : Size). x.elements + sum_by (elements_in sizes) vs) (sym e) ∙ sym (sum_by-cons (elements_in sizes) v vs));
      all_paths =
          ap (λ x. min x (most_paths + 1)) r.count ∙ cap-path r.m r.k size.paths (sum_by (paths_in sizes) vs) (most_paths + 1) g.all_paths h.all_paths
          ∙ ap (λ x. min x (most_paths + 1)) (ap (λ (x : Size). x.paths + 1 + sum_by (paths_in sizes) vs) (sym e) ∙ sym (sum_by-cons (paths_in sizes) v vs));
    }

    behind : (v : ScopeElementKept) (vs : List ScopeElementKept) (done : List ScopeElement) → elements_of_scope c s visible ≡ done ++ scope_element_of c.text v ∷ map (scope_element_of c.text) vs →
        elements_of_scope c s visible ≡ (done ++ scope_element_of c.text v ∷ []) ++ map (scope_element_of c.text) vs
    behind v vs done e = e ∙ sym (append_assoc done (scope_element_of c.text v ∷ []) (map (scope_element_of c.text) vs))

    -- what a first element adds to those after it
    by-class : (v : ScopeElementKept) (vs : List ScopeElementKept) (done : List ScopeElement) (primitive_elements : List PrimitiveElement) (n : ℕ) (o : Option ResolvedClass) → v.class ≡ o →
        elements_of_scope c s visible ≡ done ++ scope_element_of c.text v ∷ map (scope_element_of c.text) vs →
        ArePrimitiveElements c s enclosing path bindings (scope_element_of c.text v ∷ map (scope_element_of c.text) vs) primitive_elements n →
        ((further : List PrimitiveElement) (m : ℕ) → ArePrimitiveElements c s enclosing path bindings (map (scope_element_of c.text) vs) further m → AreCounted sizes vs further m) → AreCounted sizes (v ∷ vs) primitive_elements n
    by-class v vs done primitive_elements n None q e h f =
        let l = scope_element_of c.text v in
        let none : l.meaning ≡ None = ap meaning_by q in
        let r = primitive_element-case c s enclosing path bindings l (map (scope_element_of c.text) vs) primitive_elements n (λ b k. no-class (compound b) (sym none ∙ k)) h in
        absurd (no-class (primitive r.class) (sym none ∙ r.meaning))
      where
        no-class : (m : Meaning) → None ≡ Some m → ⊥
        no-class m e = cc e
    by-class v vs done primitive_elements n (Some (class.Primitive w)) q e h f =
        let l = scope_element_of c.text v in
        let r = primitive_element-case c s enclosing path bindings l (map (scope_element_of c.text) vs) primitive_elements n (λ b k. let x = sym (ap meaning_by q) ∙ k in cc x) h in
        counted-primitive_element v vs primitive_elements n (ap (λ o. (size_inside sizes o).elements) q) (ap (λ o. (size_inside sizes o).paths) q) r (f r.primitive_elements r.m r.leads)
    by-class v vs done primitive_elements n (Some (class.Compound b)) q e h f =
        let l = scope_element_of c.text v in
        let meaning : l.meaning ≡ Some (compound b) = ap meaning_by q in
        let r = inner-case c s enclosing path bindings l (map (scope_element_of c.text) vs) b primitive_elements n meaning h in
        let there : slice_get (elements_of_scope c s visible) (length done) ≡ Some l = ap (λ xs. slice_get xs (length done)) e ∙ next-there c done (map (scope_element_of c.text) vs) l in
        let k = founded-at c nested s visible enclosing stands (length done) l b there meaning in
        let below = k.below in
        let size = weighed (inside b) r.visible r.outer r.stands (omega (arith, below, next)) in
        counted-inner v vs b primitive_elements n size.0 (ap (size_inside sizes) q ∙ ap size_or size.1) r (size.2 (path ++ l.name ∷ []) ((b, r.values) ∷ bindings) r.inner r.m r.leads) (f r.primitive_elements r.k r.rest)

    counted : (vs : List ScopeElementKept) (done : List ScopeElement) (primitive_elements : List PrimitiveElement) (n : ℕ) → elements_of_scope c s visible ≡ done ++ map (scope_element_of c.text) vs →
        ArePrimitiveElements c s enclosing path bindings (map (scope_element_of c.text) vs) primitive_elements n → AreCounted sizes vs primitive_elements n
    counted [] done primitive_elements n e h =
        let r = end-case c s enclosing path bindings primitive_elements n h in
        record { elements = ap (λ (x : List PrimitiveElement). min (length x) (most_elements + 1)) r.0; all_paths = ap (λ x. min x (most_paths + 1)) r.1 }
    counted (v ∷ vs) done primitive_elements n e h = by-class v vs done primitive_elements n v.class refl e h (λ further m k. counted vs (done ++ scope_element_of c.text v ∷ []) further m (behind v vs done e) k)

  -- the size of the scope at the next index
  scope-weighed : IsNested c → (sizes : List Size) → AreWeighed sizes → (s : Scope) (visible : List Statement) (enclosing : List Scope) → Stands c s visible enclosing → table_place c s ≡ length sizes →
      (vs : List ScopeElementKept) → map (scope_element_of c.text) vs ≡ elements_of_scope c s visible → (size : Size) → IsSum sizes vs size → IsScopeSize s visible enclosing size
  scope-weighed nested sizes weighed s visible enclosing stands next vs e size h path bindings primitive_elements n k =
      let r = counted nested sizes weighed s visible enclosing stands next path bindings vs [] primitive_elements n (sym e) (subst (λ ls. ArePrimitiveElements c s enclosing path bindings ls primitive_elements n) (sym e) k) in
      record { elements = h.elements ∙ sym r.elements; all_paths = h.all_paths ∙ sym r.all_paths }

  pub weighed-none : AreWeighed []
  weighed-none s visible enclosing h l = absurd (omega (arith, l))

  pub weighed-next : IsNested c → (scopes : List ScopeKept) → AreAllScopes c scopes → (sizes new : List Size) (v : ScopeKept) (size : Size) →
      slice_get scopes (length sizes) ≡ Some v → IsSum sizes v.elements.items size → new ≡ sizes ++ size ∷ [] → AreWeighed sizes → AreWeighed new
  weighed-next nested scopes all sizes new v size there h e weighed = subst AreWeighed (sym e) (λ s visible enclosing stands l. by_place s visible enclosing stands (cases_order (table_place c s) (length sizes)) l)
    where
      by_place : (s : Scope) (visible : List Statement) (enclosing : List Scope) → Stands c s visible enclosing →
          ((table_place c s ≡ length sizes) ⊎ ((table_place c s < length sizes) ⊎ (length sizes < table_place c s))) → table_place c s < length (sizes ++ size ∷ []) →
          (one : Size) × (slice_get (sizes ++ size ∷ []) (table_place c s) ≡ Some one) × IsScopeSize s visible enclosing one
      by_place s visible enclosing stands (inl q) l =
          let r = all s visible enclosing stands in
          let same : v ≡ r.0 = same_some (sym there ∙ ap (slice_get scopes) (sym q) ∙ r.1) in
          let items : map (scope_element_of c.text) v.elements.items ≡ elements_of_scope c s visible = ap (λ (x : ScopeKept). map (scope_element_of c.text) x.elements.items) same ∙ r.2.elements in (
            size,
            ap (slice_get (sizes ++ size ∷ [])) q ∙ slice_get-last sizes size,
            scope-weighed nested sizes weighed s visible enclosing stands q v.elements.items items size h,
          )
      by_place s visible enclosing stands (inr (inl q)) l = let r = weighed s visible enclosing stands q in (r.0, slice_get-more sizes (size ∷ []) (table_place c s) r.0 r.1, r.2)
      by_place s visible enclosing stands (inr (inr q)) l = let n : length (sizes ++ size ∷ []) ≡ length sizes + 1 = length_push sizes size in absurd (omega (arith, q, l, n))

  -- all scopes have their sizes, and so does the whole text
  pub weighed-all : (scopes : List ScopeKept) → AreAllScopes c scopes → (sizes : List Size) → length scopes ≤ length sizes → AreWeighed sizes →
      IsSizeOf c (size_or (slice_get sizes (length c.bodies)))
  weighed-all scopes all sizes l weighed primitive_elements n h =
      let t = all whole [] [] at_top in
      let m = slice_get_within scopes (length c.bodies) t.0 t.1 in
      let r = weighed whole [] [] at_top (omega (arith, l, m)) in
      subst (λ o. IsSize primitive_elements n (size_or o)) (sym r.1) (r.2 [] [] primitive_elements n h)
