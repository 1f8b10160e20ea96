-- A part, and what it stands for, is added to the instances.
use Rattle.std.proofs.Common.{◌≡◌, ◌⊎◌, inl, inr, ℕ, suc, zero, ◌+◌, ◌<◌, List, [], ◌∷◌, ◌++◌, length, Option, Some, None, refl, sym, ap, ◌∙◌, subst, arith}
use Rattle.std.specs.List.{slice_get, slice_set}
use Rattle.std.proofs.lemmas.Bool.{cases_eq}
use Rattle.std.proofs.lemmas.Option.{slice_get_within}
use Rattle.std.proofs.lemmas.List.{length-append, length-set}
use Rattle.click_text.specs.declared.syntax.Config.{Config}
use Rattle.click_scopes.specs.Scopes.{Stands}
use Rattle.click_scopes.specs.Elements.{ScopeElement}
use Rattle.click_expand.specs.Instances.{PrimitiveElement, LeadsTo}
use Rattle.click_scopes.specs.kept.Scoped.{table_place}
use Rattle.click_expand.specs.kept.KnownInstances.{KnownInstance, the_whole, scope_elements_at, IsEnclosing, IsPart, IsPrimitiveElement}
use Rattle.click_expand.specs.kept.InstanceWalk.{with_part}
use Rattle.click_expand.specs.declared.instances.tree.InstancePart.{InstancePart}
use Rattle.click_expand.specs.declared.instances.tree.InstancePart.TheVariants as part
use Rattle.click_expand.specs.declared.instances.tree.Place.{Place}
use Rattle.click_expand.specs.declared.instances.tree.Instance.{Instance}
use Rattle.click_scopes.proofs.OfLists.StatementTables.{slice_get-more, slice_get-front}
use Rattle.click_expand.proofs.OfInstances.LexicalParents.{same_some, IsLexicalParentKept}

pub slice_get-there : {X : Type 0} (xs : List X) (i : ℕ) → i < length xs → (x : X) × (slice_get xs i ≡ Some x)
slice_get-there [] i l = absurd (omega (arith, l))
slice_get-there (x ∷ xs) zero l = (x, refl)
slice_get-there (x ∷ xs) (suc i) l = slice_get-there xs i (omega (arith, l))

slice_get-same : {X : Type 0} (xs : List X) (i : ℕ) (v : X) → i < length xs → slice_get (slice_set xs i v) i ≡ Some v
slice_get-same [] i v l = absurd (omega (arith, l))
slice_get-same (x ∷ xs) zero v l = refl
slice_get-same (x ∷ xs) (suc i) v l = slice_get-same xs i v (omega (arith, l))

slice_get-other : {X : Type 0} (xs : List X) (i j : ℕ) (v : X) → (j ≡ i → ⊥) → slice_get (slice_set xs i v) j ≡ slice_get xs j
slice_get-other [] i j v n = refl
slice_get-other (x ∷ xs) zero zero v n = absurd (n refl)
slice_get-other (x ∷ xs) zero (suc j) v n = refl
slice_get-other (x ∷ xs) (suc i) zero v n = refl
slice_get-other (x ∷ xs) (suc i) (suc j) v n = slice_get-other xs i j v (λ e. n (ap suc e))

pub slice_get-behind : {X : Type 0} (xs ys : List X) (j : ℕ) → slice_get (xs ++ ys) (length xs + j) ≡ slice_get ys j
slice_get-behind [] ys j = let e : 0 + j ≡ j = omega arith in ap (slice_get ys) e
slice_get-behind (x ∷ xs) ys j = let e : suc (length xs) + j ≡ suc (length xs + j) = omega arith in ap (slice_get (x ∷ (xs ++ ys))) e ∙ slice_get-behind xs ys j

-- an item of two joined lists is an item of one of them
slice_get-either : {X : Type 0} (xs ys : List X) (u : ℕ) (q : X) → slice_get (xs ++ ys) u ≡ Some q →
    ((u < length xs) × (slice_get xs u ≡ Some q)) ⊎ ((j : ℕ) × (u ≡ length xs + j) × (slice_get ys j ≡ Some q))
slice_get-either [] ys u q h = inr (u, omega arith, h)
slice_get-either (x ∷ xs) ys zero q h = inl (omega arith, h)
slice_get-either (x ∷ xs) ys (suc u) q h =
    elim (slice_get-either xs ys u q h) [
      | inl r ↦ (let l = r.0 in inl (omega (arith, l), r.1))
      | inr r ↦ (let e = r.1 in inr (r.0, omega (arith, e), r.2))
    ]

-- the instance at an index, after one instance was changed and others were appended
pub data Looked (instances : List Instance) (at : ℕ) (k : Instance) (more : List Instance) (u : ℕ) (q : Instance) : Type 0 where
  same_place : u ≡ at → q ≡ k → Looked instances at k more u q
  other_place : (u ≡ at → ⊥) → slice_get instances u ≡ Some q → Looked instances at k more u q
  new_place : (j : ℕ) → u ≡ length instances + j → slice_get more j ≡ Some q → Looked instances at k more u q

pub looked : (instances : List Instance) (at : ℕ) (k : Instance) (more : List Instance) (u : ℕ) (q : Instance) → at < length instances → slice_get (slice_set instances at k ++ more) u ≡ Some q → Looked instances at k more u q
looked instances at k more u q l h =
    let n : length (slice_set instances at k) ≡ length instances = length-set instances at k in
    elim (slice_get-either (slice_set instances at k) more u q h) [
      | inl r ↦ elim (cases_eq u at) [
        | inl e ↦ same_place e (same_some (sym r.1 ∙ ap (slice_get (slice_set instances at k)) e ∙ slice_get-same instances at k l))
        | inr d ↦ other_place d (sym (slice_get-other instances at u k d) ∙ r.1)
      ]
      | inr r ↦ (let e = r.1 in new_place r.0 (omega (arith, e, n)) r.2)
    ]

pub changed-other : (instances : List Instance) (at : ℕ) (k : Instance) (more : List Instance) (u : ℕ) → u < length instances → (u ≡ at → ⊥) → slice_get (slice_set instances at k ++ more) u ≡ slice_get instances u
changed-other instances at k more u l d =
    slice_get-front (slice_set instances at k) more u (let n : length (slice_set instances at k) ≡ length instances = length-set instances at k in omega (arith, n, l)) ∙ slice_get-other instances at u k d

pub changed-there : (instances : List Instance) (at : ℕ) (k : Instance) (more : List Instance) → at < length instances → slice_get (slice_set instances at k ++ more) at ≡ Some k
changed-there instances at k more l = slice_get-more (slice_set instances at k) more at k (slice_get-same instances at k l)

pub changed-behind : (instances : List Instance) (at : ℕ) (k : Instance) (more : List Instance) (j : ℕ) → slice_get (slice_set instances at k ++ more) (length instances + j) ≡ slice_get more j
changed-behind instances at k more j =
    ap (λ n. slice_get (slice_set instances at k ++ more) (n + j)) (sym (length-set instances at k)) ∙ slice_get-behind (slice_set instances at k) more j

-- an instance keeps its place and its parts
pub record IsGrown (k q : Instance) : Type 0 where
  pub enclosing : q.enclosing ≡ k.enclosing
  pub parts : (i : ℕ) (p : InstancePart) → slice_get k.parts i ≡ Some p → slice_get q.parts i ≡ Some p

abbrev pub Grows : List Instance → List Instance → Type 0
Grows instances new = (u : ℕ) (k : Instance) → slice_get instances u ≡ Some k → (q : Instance) × (slice_get new u ≡ Some q) × IsGrown k q

-- the items of one list are at the same indices in another
abbrev pub Stays : {X : Type 0} → List X → List X → Type 0
Stays {X} xs ys = (i : ℕ) (x : X) → slice_get xs i ≡ Some x → slice_get ys i ≡ Some x

changed-grows : (instances : List Instance) (at : ℕ) (k : Instance) (p : InstancePart) (more : List Instance) → slice_get instances at ≡ Some k → Grows instances (slice_set instances at (with_part k p) ++ more)
changed-grows instances at k p more h u q e =
    let l = slice_get_within instances at k h in let m = slice_get_within instances u q e in
    elim (cases_eq u at) [
      | inl s ↦
          (let same : q ≡ k = same_some (sym e ∙ ap (slice_get instances) s ∙ h) in (
            with_part k p,
            ap (slice_get (slice_set instances at (with_part k p) ++ more)) s ∙ changed-there instances at (with_part k p) more l,
            record {
              enclosing = sym (ap (λ (x : Instance). x.enclosing) same);
              parts = λ i x g. slice_get-more k.parts (p ∷ []) i x (subst (λ (y : Instance). slice_get y.parts i ≡ Some x) same g);
            },
          ))
      | inr d ↦ (q, changed-other instances at (with_part k p) more u m d ∙ e, record { enclosing = refl; parts = λ i x g. g })
    ]

module _ (c : Config) where
  -- An instance with its parts so far.
  pub record IsSoFar (instances : List Instance) (places : List Place) (known : List KnownInstance) (u : ℕ) (k : Instance) (x : KnownInstance) : Type 0 where
    pub stands : Stands c x.scope x.visible x.enclosing
    pub scope : k.scope ≡ table_place c x.scope
    pub leads : LeadsTo c x.path x.scope x.visible
    pub enclosing : IsEnclosing c known u x k.enclosing
    pub lexical_parent : IsLexicalParentKept c known u x k.lexical_parent
    pub parts : (i : ℕ) (p : InstancePart) → slice_get k.parts i ≡ Some p → (l : ScopeElement) × (slice_get (scope_elements_at c x) i ≡ Some l) × IsPart instances places u i l p
    pub own : (p : Place) → k.enclosing ≡ Some p → (o : Instance) × (slice_get instances p.within ≡ Some o) × (slice_get o.parts p.element ≡ Some (part.Inner u))

  -- the instances and the flat elements so far
  pub record Kept (instances : List Instance) (places : List Place) (known : List KnownInstance) (done : List PrimitiveElement) : Type 0 where
    pub as_many : length known ≡ length instances
    pub as_many_primitive_elements : length places ≡ length done
    pub first : slice_get known 0 ≡ Some the_whole
    pub each : (u : ℕ) (k : Instance) → slice_get instances u ≡ Some k → (x : KnownInstance) × (slice_get known u ≡ Some x) × IsSoFar instances places known u k x
    pub primitive_element : (n : ℕ) (p : Place) → slice_get places n ≡ Some p → (f : PrimitiveElement) × (slice_get done n ≡ Some f) × IsPrimitiveElement c instances known n p f

  part-grown : (instances new : List Instance) (places more : List Place) (u i : ℕ) (l : ScopeElement) (p : InstancePart) → Grows instances new → Stays places more → IsPart instances places u i l p → IsPart new more u i l p
  part-grown instances new places more u i l (part.PrimitiveElement n) g s h = (h.0, h.1, (h.2.0, s n h.2.0 h.2.1, h.2.2, h.2.3))
  part-grown instances new places more u i l (part.Inner v) g s h =
      let r = g v h.2.0 h.2.1 in (h.0, h.1, (r.0, r.1, (h.2.2.0, r.2.enclosing ∙ h.2.2.1, h.2.2.2, h.2.2.3)))

  enclosing-grown : (known new : List KnownInstance) (u : ℕ) (x : KnownInstance) (o : Option Place) → Stays known new → IsEnclosing c known u x o → IsEnclosing c new u x o
  enclosing-grown known new u x None s h = h
  enclosing-grown known new u x (Some p) s h = (h.0, (h.1.0, s p.within h.1.0 h.1.1, h.1.2))

  lexical_parent-grown : (known new : List KnownInstance) (u : ℕ) (x : KnownInstance) (o : Option ℕ) → Stays known new → IsLexicalParentKept c known u x o → IsLexicalParentKept c new u x o
  lexical_parent-grown known new u x None s h = h
  lexical_parent-grown known new u x (Some w) s h = (h.0, (h.1.0, s w h.1.0 h.1.1, h.1.2, h.1.3))

  so_far-grown : (instances new : List Instance) (places more : List Place) (known wider : List KnownInstance) (u : ℕ) (k : Instance) (x : KnownInstance) → Grows instances new → Stays places more → Stays known wider →
      IsSoFar instances places known u k x → IsSoFar new more wider u k x
  so_far-grown instances new places more known wider u k x g s t h = record {
    stands = h.stands;
    scope = h.scope;
    leads = h.leads;
    enclosing = enclosing-grown known wider u x k.enclosing t h.enclosing;
    lexical_parent = lexical_parent-grown known wider u x k.lexical_parent t h.lexical_parent;
    parts = λ i p e. let r = h.parts i p e in (r.0, r.1, part-grown instances new places more u i r.0 p g s r.2);
    own = λ p e. let r = h.own p e in let q = g p.within r.0 r.1 in (q.0, q.1, q.2.parts p.element (part.Inner u) r.2);
  }

  primitive_element-grown : (instances new : List Instance) (known wider : List KnownInstance) (n : ℕ) (p : Place) (f : PrimitiveElement) → Grows instances new → Stays known wider → IsPrimitiveElement c instances known n p f → IsPrimitiveElement c new wider n p f
  primitive_element-grown instances new known wider n p f g t h =
      let q = g p.within h.instance_kept h.instance_there in
      record {
        instance_kept = q.0;
        instance_there = q.1;
        part_there = q.2.parts p.element (part.PrimitiveElement n) h.part_there;
        used = h.used;
        instance_is_there = t p.within h.used h.instance_is_there;
        scope_element = h.scope_element;
        scope_element_there = h.scope_element_there;
        path = h.path;
        meaning = h.meaning;
        text = h.text;
        first = h.first;
      }

  -- one more part
  so_far-part : (instances : List Instance) (places : List Place) (known : List KnownInstance) (u : ℕ) (k : Instance) (x : KnownInstance) (p : InstancePart) (l : ScopeElement) → slice_get (scope_elements_at c x) (length k.parts) ≡ Some l →
      IsPart instances places u (length k.parts) l p → IsSoFar instances places known u k x → IsSoFar instances places known u (with_part k p) x
  so_far-part instances places known u k x p l e h w = record {
    stands = w.stands;
    scope = w.scope;
    leads = w.leads;
    enclosing = w.enclosing;
    lexical_parent = w.lexical_parent;
    parts = λ i y g. elim (slice_get-either k.parts (p ∷ []) i y g) [
      | inl r ↦ w.parts i y r.1
      | inr r ↦ at_end i y r.0 r.1 r.2
    ];
    own = w.own;
  }
    where
      at_end : (i : ℕ) (y : InstancePart) (j : ℕ) → i ≡ length k.parts + j → slice_get (p ∷ []) j ≡ Some y → (m : ScopeElement) × (slice_get (scope_elements_at c x) i ≡ Some m) × IsPart instances places u i m y
      at_end i y zero s g =
          let at : length k.parts ≡ i = omega (arith, s) in
          (l, ap (slice_get (scope_elements_at c x)) (sym at) ∙ e, subst (λ n. IsPart instances places u n l y) at (subst (IsPart instances places u (length k.parts) l) (same_some g) h))
      at_end i y (suc j) s g = absurd (cc g)

  -- What is added: a part of one instance, and the instance or the flat element that it stands for.
  pub record IsAddition (instances : List Instance) (places : List Place) (known : List KnownInstance) (done : List PrimitiveElement) (at : ℕ) (k : Instance) (x : KnownInstance) (p : InstancePart) (more : List Instance) (further : List Place) (wider : List KnownInstance) (primitive_elements : List PrimitiveElement) : Type 0 where
    pub there : slice_get instances at ≡ Some k
    pub used : slice_get known at ≡ Some x
    pub scope_element : ScopeElement
    pub scope_element_there : slice_get (scope_elements_at c x) (length k.parts) ≡ Some scope_element
    pub part : IsPart (slice_set instances at (with_part k p) ++ more) (places ++ further) at (length k.parts) scope_element p
    pub uses_match : length wider ≡ length more
    pub primitive_elements_match : length further ≡ length primitive_elements
    pub new_instances : (j : ℕ) (q : Instance) → slice_get more j ≡ Some q → (y : KnownInstance) × (slice_get wider j ≡ Some y)
        × IsSoFar (slice_set instances at (with_part k p) ++ more) (places ++ further) (known ++ wider) (length instances + j) q y
    pub new_primitive_elements : (j : ℕ) (q : Place) → slice_get further j ≡ Some q → (f : PrimitiveElement) × (slice_get primitive_elements j ≡ Some f)
        × IsPrimitiveElement c (slice_set instances at (with_part k p) ++ more) (known ++ wider) (length places + j) q f

  pub kept-added : (instances : List Instance) (places : List Place) (known : List KnownInstance) (done : List PrimitiveElement) (at : ℕ) (k : Instance) (x : KnownInstance) (p : InstancePart) (more : List Instance) (further : List Place)
      (wider : List KnownInstance) (primitive_elements : List PrimitiveElement) → IsAddition instances places known done at k x p more further wider primitive_elements → Kept instances places known done →
      Kept (slice_set instances at (with_part k p) ++ more) (places ++ further) (known ++ wider) (done ++ primitive_elements)
  kept-added instances places known done at k x p more further wider primitive_elements a w = record {
    as_many = length-append known wider ∙ ap (λ n. n + length wider) w.as_many ∙ ap (λ n. length instances + n) a.uses_match
        ∙ sym (length-append (slice_set instances at (with_part k p)) more ∙ ap (λ n. n + length more) (length-set instances at (with_part k p)));
    as_many_primitive_elements = length-append places further ∙ ap (λ n. n + length further) w.as_many_primitive_elements ∙ ap (λ n. length done + n) a.primitive_elements_match ∙ sym (length-append done primitive_elements);
    first = slice_get-more known wider 0 the_whole w.first;
    each = λ u q e. by_place u q (looked instances at (with_part k p) more u q (slice_get_within instances at k a.there) e);
    primitive_element = λ n q e. by_primitive_element n q (slice_get-either places further n q e);
  }
    where
      grows : Grows instances (slice_set instances at (with_part k p) ++ more)
      grows = changed-grows instances at k p more a.there

      stays : Stays known (known ++ wider)
      stays i y e = slice_get-more known wider i y e

      places_stay : Stays places (places ++ further)
      places_stay i y e = slice_get-more places further i y e

      by_place : (u : ℕ) (q : Instance) → Looked instances at (with_part k p) more u q → (y : KnownInstance) × (slice_get (known ++ wider) u ≡ Some y) × IsSoFar (slice_set instances at (with_part k p) ++ more) (places ++ further) (known ++ wider) u q y
      by_place u q (same_place s e) =
          let r = w.each at k a.there in
          let same : r.0 ≡ x = same_some (sym r.1 ∙ a.used) in
          let old : IsSoFar instances places known at k x = subst (IsSoFar instances places known at k) same r.2 in
          let grown : IsSoFar (slice_set instances at (with_part k p) ++ more) (places ++ further) (known ++ wider) at k x = so_far-grown instances (slice_set instances at (with_part k p) ++ more) places (places ++ further) known (known ++ wider) at k x grows places_stay stays old in
          let whole : IsSoFar (slice_set instances at (with_part k p) ++ more) (places ++ further) (known ++ wider) at (with_part k p) x = so_far-part (slice_set instances at (with_part k p) ++ more) (places ++ further) (known ++ wider) at k x p a.scope_element a.scope_element_there a.part grown in (
            x,
            ap (slice_get (known ++ wider)) s ∙ stays at x a.used,
            subst (λ n. IsSoFar (slice_set instances at (with_part k p) ++ more) (places ++ further) (known ++ wider) n q x) (sym s) (subst (λ (y : Instance). IsSoFar (slice_set instances at (with_part k p) ++ more) (places ++ further) (known ++ wider) at y x) (sym e) whole),
          )
      by_place u q (other_place d e) =
          let r = w.each u q e in (r.0, stays u r.0 r.1, so_far-grown instances (slice_set instances at (with_part k p) ++ more) places (places ++ further) known (known ++ wider) u q r.0 grows places_stay stays r.2)
      by_place u q (new_place j s e) =
          let r = a.new_instances j q e in (
            r.0,
            ap (slice_get (known ++ wider)) s ∙ ap (λ n. slice_get (known ++ wider) (n + j)) (sym w.as_many) ∙ slice_get-behind known wider j ∙ r.1,
            subst (λ n. IsSoFar (slice_set instances at (with_part k p) ++ more) (places ++ further) (known ++ wider) n q r.0) (sym s) r.2,
          )

      by_primitive_element : (n : ℕ) (q : Place) → ((n < length places) × (slice_get places n ≡ Some q)) ⊎ ((j : ℕ) × (n ≡ length places + j) × (slice_get further j ≡ Some q)) →
          (f : PrimitiveElement) × (slice_get (done ++ primitive_elements) n ≡ Some f) × IsPrimitiveElement c (slice_set instances at (with_part k p) ++ more) (known ++ wider) n q f
      by_primitive_element n q (inl h) = let r = w.primitive_element n q h.1 in (r.0, slice_get-more done primitive_elements n r.0 r.1, primitive_element-grown instances (slice_set instances at (with_part k p) ++ more) known (known ++ wider) n q r.0 grows stays r.2)
      by_primitive_element n q (inr h) =
          let r = a.new_primitive_elements h.0 q h.2 in (
            r.0,
            ap (slice_get (done ++ primitive_elements)) h.1 ∙ ap (λ m. slice_get (done ++ primitive_elements) (m + h.0)) w.as_many_primitive_elements ∙ slice_get-behind done primitive_elements h.0 ∙ r.1,
            subst (λ m. IsPrimitiveElement c (slice_set instances at (with_part k p) ++ more) (known ++ wider) m q r.0) (sym h.1) r.2,
          )
