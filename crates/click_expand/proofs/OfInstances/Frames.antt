-- The walk over the instances: the open instances, from the current one outwards, and what is still
-- to come in each.
use Rattle.std.proofs.Common.{◌≡◌, ℕ, suc, zero, ◌+◌, ◌<◌, List, [], ◌∷◌, ◌++◌, length, Option, Some, None, refl, sym, ap, ◌∙◌, subst, append_assoc, arith}
use Rattle.std.specs.List.{slice_get, slice_set}
use Rattle.std.proofs.lemmas.Option.{slice_get_within}
use Rattle.std.proofs.lemmas.List.{append-nil, length-set, length_push}
use Rattle.click_base.specs.declared.class.Class.{Class}
use Rattle.click_text.specs.declared.syntax.Span.{Span}
use Rattle.click_text.specs.declared.syntax.Statement.{Statement}
use Rattle.click_text.specs.declared.syntax.Config.{Config}
use Rattle.click_text.specs.Arguments.{AreArguments}
use Rattle.click_scopes.specs.Scopes.{Scope, whole, inside, Stands, at_top}
use Rattle.click_scopes.specs.Classes.{primitive, compound}
use Rattle.click_scopes.specs.Elements.{ScopeElement}
use Rattle.click_scopes.specs.Faults.{elements_of_scope, first_token}
use Rattle.click_expand.specs.Parameters.{Bindings, IsReplaced}
use Rattle.click_expand.specs.Instances.{PrimitiveElement, AreValues, ArePrimitiveElements, no_elements, primitive_element, branch, PrimitiveElementsOf, to_whole}
use Rattle.click_scopes.specs.kept.Nesting.{IsNested}
use Rattle.click_expand.specs.kept.KnownInstances.{KnownInstance, the_whole, scope_elements_at, IsPrimitiveElement, AreInstances}
use Rattle.click_expand.specs.kept.InstanceWalk.{with_part, instance_without_parts, element_place}
use Rattle.click_expand.specs.declared.instances.tree.InstancePart.{InstancePart}
use Rattle.click_expand.specs.declared.instances.tree.InstancePart.TheVariants as part
use Rattle.click_expand.specs.declared.instances.tree.Place.{Place}
use Rattle.click_expand.specs.declared.instances.tree.Instance.{Instance}
use Rattle.click_scopes.proofs.OfLists.StatementTables.{slice_get-more, slice_get-last}
use Rattle.click_scopes.proofs.OfBodies.OneBodyPlace.{stands-once}
use Rattle.click_scopes.proofs.OfBodies.EarlierBodies.{founded-at}
use Rattle.click_expand.proofs.OfInstances.LexicalParents.{same_some}
use Rattle.click_expand.proofs.OfInstances.InstanceParts.{changed-other, changed-there, IsSoFar, Kept, kept-added}

module _ (c : Config) where
  -- an instance has all its parts
  abbrev pub IsFull : List KnownInstance → ℕ → Instance → Type 0
  IsFull known u k = (x : KnownInstance) × (slice_get known u ≡ Some x) × (length k.parts ≡ length (scope_elements_at c x))

  -- An open instance, with index `at`. Its elements that are still to come have these flat
  -- elements, and n paths. The instances after it, below index `upper`, have all their parts.
  pub record Frame (instances : List Instance) (known : List KnownInstance) (upper at : ℕ) (primitive_elements : List PrimitiveElement) (n : ℕ) : Type 0 where
    pub used : KnownInstance
    pub instance_is_there : slice_get known at ≡ Some used
    pub kept : Instance
    pub kept_there : slice_get instances at ≡ Some kept
    pub done : List ScopeElement
    pub rest : List ScopeElement
    pub splits : scope_elements_at c used ≡ done ++ rest
    pub as_far : length kept.parts ≡ length done
    pub leads : ArePrimitiveElements c used.scope used.enclosing used.path used.bindings rest primitive_elements n
    pub full : (u : ℕ) (k : Instance) → at < u → u < upper → slice_get instances u ≡ Some k → IsFull known u k

  -- the open instances around an instance
  pub data Chain (instances : List Instance) (known : List KnownInstance) : ℕ → Option Place → List PrimitiveElement → ℕ → Type 0 where
    outermost : (upper : ℕ) → Chain instances known upper None [] 0
    within : (upper : ℕ) (p : Place) (inner primitive_elements : List PrimitiveElement) (m n : ℕ) (f : Frame instances known upper p.within inner m) → p.within < upper →
        Chain instances known p.within f.kept.enclosing primitive_elements n → Chain instances known upper (Some p) (inner ++ primitive_elements) (m + n)

  -- The current instance of the walk has the index `at`.
  pub record Walking (instances : List Instance) (places : List Place) (at : ℕ) (primitive_elements : List PrimitiveElement) (n : ℕ) : Type 0 where
    pub known : List KnownInstance
    pub done : List PrimitiveElement
    pub kept : Kept c instances places known done
    pub inner : List PrimitiveElement
    pub outer : List PrimitiveElement
    pub m : ℕ
    pub k : ℕ
    pub splits : primitive_elements ≡ done ++ (inner ++ outer)
    pub count : length instances + length places + (m + k) ≡ n + 1
    pub upper : ℕ
    pub upper_is : upper ≡ length instances
    pub frame : Frame instances known upper at inner m
    pub chain : Chain instances known at frame.kept.enclosing outer k

  abbrev pub IsWalked : List Instance → List Place → List PrimitiveElement → Type 0
  IsWalked instances places primitive_elements = (known : List KnownInstance) × AreInstances c instances places known primitive_elements

  -- the frame and the chain, in instances that are the same below an index
  module _ (instances new : List Instance) (known wider : List KnownInstance) where
    pub frame-same : (upper at : ℕ) (primitive_elements : List PrimitiveElement) (n : ℕ) → at < upper → ((u : ℕ) → u < upper → slice_get new u ≡ slice_get instances u) → ((u : ℕ) (x : KnownInstance) → slice_get known u ≡ Some x → slice_get wider u ≡ Some x) →
        (f : Frame instances known upper at primitive_elements n) → (g : Frame new wider upper at primitive_elements n) × (g.kept.enclosing ≡ f.kept.enclosing)
    frame-same upper at primitive_elements n l s t f = (
      record {
        used = f.used;
        instance_is_there = t at f.used f.instance_is_there;
        kept = f.kept;
        kept_there = s at l ∙ f.kept_there;
        done = f.done;
        rest = f.rest;
        splits = f.splits;
        as_far = f.as_far;
        leads = f.leads;
        full = λ u k a b e. let r = f.full u k a b (sym (s u b) ∙ e) in (r.0, t u r.0 r.1, r.2);
      },
      refl,
    )

    pub chain-same : (upper : ℕ) (o : Option Place) (primitive_elements : List PrimitiveElement) (n : ℕ) → ((u : ℕ) → u < upper → slice_get new u ≡ slice_get instances u) → ((u : ℕ) (x : KnownInstance) → slice_get known u ≡ Some x → slice_get wider u ≡ Some x) →
        Chain instances known upper o primitive_elements n → Chain new wider upper o primitive_elements n
    chain-same upper o primitive_elements n s t (outermost upper') = outermost upper'
    chain-same upper o primitive_elements n s t (within upper' p inner outer m k f l h) =
        let g = frame-same upper' p.within inner m l s t f in
        within upper' p inner outer m k g.0 l
        (subst (λ a. Chain new wider p.within a outer k) (sym g.1) (chain-same p.within f.kept.enclosing outer k (λ u j. s u (omega (arith, j, l))) t h))

  -- an element without a class has no flat elements; an element of one of the router's classes is
  -- one; a compound has those inside it
  pub record PrimitiveElementCase (s : Scope) (enclosing : List Scope) (path : List (List ℕ)) (bindings : Bindings) (l : ScopeElement) (ls : List ScopeElement) (all : List PrimitiveElement) (n : ℕ) : Type 0 where
    pub class : Class
    pub text : List ℕ
    pub primitive_elements : List PrimitiveElement
    pub m : ℕ
    pub meaning : l.meaning ≡ Some (primitive class)
    pub replaced : IsReplaced c bindings (s ∷ enclosing) l.text text
    pub leads : ArePrimitiveElements c s enclosing path bindings ls primitive_elements m
    pub is : all ≡ record { path = path ++ l.name ∷ []; class = class; text = text; first = first_token c l.head } ∷ primitive_elements
    pub count : n ≡ m + 1

  pub record InnerCase (s : Scope) (enclosing : List Scope) (path : List (List ℕ)) (bindings : Bindings) (l : ScopeElement) (ls : List ScopeElement) (b : ℕ) (all : List PrimitiveElement) (n : ℕ) : Type 0 where
    pub visible : List Statement
    pub outer : List Scope
    pub spans : List Span
    pub values : List (List ℕ)
    pub inner : List PrimitiveElement
    pub primitive_elements : List PrimitiveElement
    pub m : ℕ
    pub k : ℕ
    pub arguments : AreArguments l.text spans
    pub replaced : AreValues c bindings (s ∷ enclosing) l.text spans values
    pub stands : Stands c (inside b) visible outer
    pub leads : ArePrimitiveElements c (inside b) outer (path ++ l.name ∷ []) ((b, values) ∷ bindings) (elements_of_scope c (inside b) visible) inner m
    pub rest : ArePrimitiveElements c s enclosing path bindings ls primitive_elements k
    pub is : all ≡ inner ++ primitive_elements
    pub count : n ≡ m + k + 1

  pub primitive_element-case : (s : Scope) (enclosing : List Scope) (path : List (List ℕ)) (bindings : Bindings) (l : ScopeElement) (ls : List ScopeElement) (all : List PrimitiveElement) (n : ℕ) → ((b : ℕ) → l.meaning ≡ Some (compound b) → ⊥) →
      ArePrimitiveElements c s enclosing path bindings (l ∷ ls) all n → PrimitiveElementCase s enclosing path bindings l ls all n
  primitive_element-case s enclosing path bindings l ls all n d (primitive_element s1 a1 p1 b1 l1 ls1 class text primitive_elements m e r h) =
      record { class = class; text = text; primitive_elements = primitive_elements; m = m; meaning = e; replaced = r; leads = h; is = refl; count = refl }
  primitive_element-case s enclosing path bindings l ls all n d (branch s1 a1 p1 b1 l1 ls1 b visible outer spans values inner primitive_elements m k e a v st h g) = absurd (d b e)

  pub inner-case : (s : Scope) (enclosing : List Scope) (path : List (List ℕ)) (bindings : Bindings) (l : ScopeElement) (ls : List ScopeElement) (b : ℕ) (all : List PrimitiveElement) (n : ℕ) → l.meaning ≡ Some (compound b) →
      ArePrimitiveElements c s enclosing path bindings (l ∷ ls) all n → InnerCase s enclosing path bindings l ls b all n
  inner-case s enclosing path bindings l ls b all n d (primitive_element s1 a1 p1 b1 l1 ls1 class text primitive_elements m e r h) = absurd (let x : Some (primitive class) ≡ Some (compound b) = sym e ∙ d in cc x)
  inner-case s enclosing path bindings l ls b all n d (branch s1 a1 p1 b1 l1 ls1 b' visible outer spans values inner primitive_elements m k e a v st h g) =
      let same : b' ≡ b = (let x : Some (compound b') ≡ Some (compound b) = sym e ∙ d in cc x) in
      record {
        visible = visible;
        outer = outer;
        spans = spans;
        values = values;
        inner = inner;
        primitive_elements = primitive_elements;
        m = m;
        k = k;
        arguments = a;
        replaced = v;
        stands = subst (λ x. Stands c (inside x) visible outer) same st;
        leads = subst (λ x. ArePrimitiveElements c (inside x) outer (path ++ l.name ∷ []) ((x, values) ∷ bindings) (elements_of_scope c (inside x) visible) inner m) same h;
        rest = g;
        is = refl;
        count = refl;
      }

  pub end-case : (s : Scope) (enclosing : List Scope) (path : List (List ℕ)) (bindings : Bindings) (all : List PrimitiveElement) (n : ℕ) → ArePrimitiveElements c s enclosing path bindings [] all n → (all ≡ []) × (n ≡ 0)
  end-case s enclosing path bindings all n (no_elements s1 a1 p1 b1) = (refl, refl)

  -- the beginning of the walk
  pub walking-first : (place : ℕ) (primitive_elements : List PrimitiveElement) (n : ℕ) → place ≡ length c.bodies → PrimitiveElementsOf c primitive_elements n → Walking (instance_without_parts place None None ∷ []) [] 0 primitive_elements n
  walking-first place primitive_elements n e h = record {
    known = the_whole ∷ [];
    done = [];
    kept = record {
      as_many = refl;
      as_many_primitive_elements = refl;
      first = refl;
      each = first_each;
      primitive_element = λ m p g. absurd (cc g);
    };
    inner = primitive_elements;
    outer = [];
    m = n;
    k = 0;
    splits = sym (append-nil primitive_elements);
    count = omega arith;
    upper = 1;
    upper_is = refl;
    frame = record {
      used = the_whole;
      instance_is_there = refl;
      kept = instance_without_parts place None None;
      kept_there = refl;
      done = [];
      rest = elements_of_scope c whole [];
      splits = refl;
      as_far = refl;
      leads = h;
      full = λ u k a b g. absurd (omega (arith, a, b));
    };
    chain = outermost 0;
  }
    where
      first_so_far : (k : Instance) → instance_without_parts place None None ≡ k → IsSoFar c (instance_without_parts place None None ∷ []) [] (the_whole ∷ []) 0 k the_whole
      first_so_far k g = subst (λ (x : Instance). IsSoFar c (instance_without_parts place None None ∷ []) [] (the_whole ∷ []) 0 x the_whole) g (record {
        stands = at_top;
        scope = e;
        leads = to_whole;
        enclosing = (refl, refl);
        lexical_parent = refl;
        parts = λ i p x. absurd (cc x);
        own = λ p x. absurd (cc x);
      })

      first_each : (u : ℕ) (k : Instance) → slice_get (instance_without_parts place None None ∷ []) u ≡ Some k →
          (x : KnownInstance) × (slice_get (the_whole ∷ []) u ≡ Some x) × IsSoFar c (instance_without_parts place None None ∷ []) [] (the_whole ∷ []) u k x
      first_each zero k g = (the_whole, refl, first_so_far k (same_some g))
      first_each (suc u) k g = absurd (cc g)

  -- a body that is used in a scope is written in it, or in a scope around it
  pub founded-enclosing : IsNested c → (x : KnownInstance) (i b : ℕ) (l : ScopeElement) (v : List Statement) (o : List Scope) → Stands c x.scope x.visible x.enclosing → slice_get (scope_elements_at c x) i ≡ Some l →
      l.meaning ≡ Some (compound b) → Stands c (inside b) v o → (front : List Scope) × (x.scope ∷ x.enclosing ≡ front ++ o)
  founded-enclosing nested x i b l v o h e q k =
      let r = founded-at c nested x.scope x.visible x.enclosing h i l b e q in
      let same = stands-once c nested (inside b) r.inner v r.parent o r.stands k in
      (r.front, r.is ∙ ap (λ a. r.front ++ a) same.1)

  pub next-there : (done rest : List ScopeElement) (l : ScopeElement) → slice_get (done ++ l ∷ rest) (length done) ≡ Some l
  next-there [] rest l = refl
  next-there (d ∷ done) rest l = next-there done rest l

  -- the current instance, with its parts so far
  module _ (instances : List Instance) (places : List Place) (at : ℕ) (primitive_elements : List PrimitiveElement) (n : ℕ) (w : Walking instances places at primitive_elements n) where
    pub at-so_far : IsSoFar c instances places w.known at w.frame.kept w.frame.used
    at-so_far =
        let r = w.kept.each at w.frame.kept w.frame.kept_there in
        subst (IsSoFar c instances places w.known at w.frame.kept) (same_some (sym r.1 ∙ w.frame.instance_is_there)) r.2

    pub at-within : at < length instances
    at-within = slice_get_within instances at w.frame.kept w.frame.kept_there

    pub at-scope_element : (l : ScopeElement) (ls : List ScopeElement) → w.frame.rest ≡ l ∷ ls → slice_get (scope_elements_at c w.frame.used) (length w.frame.kept.parts) ≡ Some l
    at-scope_element l ls e =
        ap (λ xs. slice_get xs (length w.frame.kept.parts)) (w.frame.splits ∙ ap (λ xs. w.frame.done ++ xs) e)
        ∙ ap (slice_get (w.frame.done ++ l ∷ ls)) w.frame.as_far ∙ next-there w.frame.done ls l

    -- the frame with one more part
    pub frame-part : (p : InstancePart) (more : List Instance) (wider : List KnownInstance) (upper : ℕ) (l : ScopeElement) (ls : List ScopeElement) (inner : List PrimitiveElement) (k : ℕ) → upper ≡ length instances → w.frame.rest ≡ l ∷ ls →
        ArePrimitiveElements c w.frame.used.scope w.frame.used.enclosing w.frame.used.path w.frame.used.bindings ls inner k →
        (g : Frame (slice_set instances at (with_part w.frame.kept p) ++ more) (w.known ++ wider) upper at inner k) × (g.kept.enclosing ≡ w.frame.kept.enclosing)
    frame-part p more wider upper l ls inner k u e h = (
      record {
        used = w.frame.used;
        instance_is_there = slice_get-more w.known wider at w.frame.used w.frame.instance_is_there;
        kept = with_part w.frame.kept p;
        kept_there = changed-there instances at (with_part w.frame.kept p) more at-within;
        done = w.frame.done ++ l ∷ [];
        rest = ls;
        splits = w.frame.splits ∙ ap (λ xs. w.frame.done ++ xs) e ∙ sym (append_assoc w.frame.done (l ∷ []) ls);
        as_far = length_push w.frame.kept.parts p ∙ ap (λ x. x + 1) w.frame.as_far ∙ sym (length_push w.frame.done l);
        leads = h;
        full = λ v q a b g.
            let b2 : v < length instances = omega (arith, b, u) in
            let b3 : v < w.upper = (let t = w.upper_is in omega (arith, b2, t)) in
            let r = w.frame.full v q a b3 (sym (changed-other instances at (with_part w.frame.kept p) more v b2 (λ s. omega (arith, s, a))) ∙ g) in
            (r.0, slice_get-more w.known wider v r.0 r.1, r.2);
      },
      refl,
    )

    pub chain-changed : (p : InstancePart) (more : List Instance) (wider : List KnownInstance) → Chain (slice_set instances at (with_part w.frame.kept p) ++ more) (w.known ++ wider) at w.frame.kept.enclosing w.outer w.k
    chain-changed p more wider =
        chain-same instances (slice_set instances at (with_part w.frame.kept p) ++ more) w.known (w.known ++ wider) at w.frame.kept.enclosing w.outer w.k
        (λ u l. changed-other instances at (with_part w.frame.kept p) more u (let b = at-within in omega (arith, l, b)) (λ s. omega (arith, s, l)))
        (λ u x. slice_get-more w.known wider u x) w.chain

    -- a flat element is next
    pub walking-primitive_element : (l : ScopeElement) (ls : List ScopeElement) → w.frame.rest ≡ l ∷ ls → ((b : ℕ) → l.meaning ≡ Some (compound b) → ⊥) →
        Walking (slice_set instances at (with_part w.frame.kept (part.PrimitiveElement (length places))) ++ []) (places ++ element_place at (length w.frame.kept.parts) ∷ []) at primitive_elements n
    walking-primitive_element l ls e d =
        let x = w.frame.used in
        let r = primitive_element-case x.scope x.enclosing x.path x.bindings l ls w.inner w.m d (subst (λ xs. ArePrimitiveElements c x.scope x.enclosing x.path x.bindings xs w.inner w.m) e w.frame.leads) in
        let p = part.PrimitiveElement (length places) in
        let f : PrimitiveElement = record { path = x.path ++ l.name ∷ []; class = r.class; text = r.text; first = first_token c l.head } in
        let g = frame-part p [] [] w.upper l ls r.primitive_elements r.m w.upper_is e r.leads in
        let len : length (slice_set instances at (with_part w.frame.kept p) ++ []) ≡ length instances = ap length (append-nil (slice_set instances at (with_part w.frame.kept p))) ∙ length-set instances at (with_part w.frame.kept p) in
        let pushed : length (places ++ element_place at (length w.frame.kept.parts) ∷ []) ≡ length places + 1 = length_push places (element_place at (length w.frame.kept.parts)) in
        let count = w.count in let rc = r.count in
        record {
          known = w.known ++ [];
          done = w.done ++ f ∷ [];
          kept = kept-added c instances places w.known w.done at w.frame.kept x p [] (element_place at (length w.frame.kept.parts) ∷ []) [] (f ∷ [])
              (record {
                there = w.frame.kept_there;
                used = w.frame.instance_is_there;
                scope_element = l;
                scope_element_there = at-scope_element l ls e;
                part = (r.class, r.meaning, (element_place at (length w.frame.kept.parts), slice_get-last places (element_place at (length w.frame.kept.parts)), refl, refl));
                uses_match = refl;
                primitive_elements_match = refl;
                new_instances = λ j q h. absurd (cc h);
                new_primitive_elements = λ j q h. the-primitive_element l ls e r j q h;
              })
              w.kept;
          inner = r.primitive_elements;
          outer = w.outer;
          m = r.m;
          k = w.k;
          splits = w.splits ∙ ap (λ xs. w.done ++ (xs ++ w.outer)) r.is ∙ sym (append_assoc w.done (f ∷ []) (r.primitive_elements ++ w.outer));
          count = omega (arith, len, pushed, count, rc);
          upper = w.upper;
          upper_is = w.upper_is ∙ sym len;
          frame = g.0;
          chain = subst (λ a. Chain (slice_set instances at (with_part w.frame.kept p) ++ []) (w.known ++ []) at a w.outer w.k) (sym g.1) (chain-changed p [] []);
        }
      where
        the-primitive_element : (l : ScopeElement) (ls : List ScopeElement) → w.frame.rest ≡ l ∷ ls → (r : PrimitiveElementCase w.frame.used.scope w.frame.used.enclosing w.frame.used.path w.frame.used.bindings l ls w.inner w.m) (j : ℕ) (q : Place) →
            slice_get (element_place at (length w.frame.kept.parts) ∷ []) j ≡ Some q →
            (f : PrimitiveElement) × (slice_get (record { path = w.frame.used.path ++ l.name ∷ []; class = r.class; text = r.text; first = first_token c l.head } ∷ []) j ≡ Some f)
            × IsPrimitiveElement c (slice_set instances at (with_part w.frame.kept (part.PrimitiveElement (length places))) ++ []) (w.known ++ []) (length places + j) q f
        the-primitive_element l ls e r zero q h =
            let p = part.PrimitiveElement (length places) in
            let same : element_place at (length w.frame.kept.parts) ≡ q = same_some h in
            let f : PrimitiveElement = record { path = w.frame.used.path ++ l.name ∷ []; class = r.class; text = r.text; first = first_token c l.head } in
            let none : length places ≡ length places + 0 = omega arith in (
              f,
              refl,
              subst (λ k. IsPrimitiveElement c (slice_set instances at (with_part w.frame.kept p) ++ []) (w.known ++ []) k q f) none
                  (subst (λ (y : Place). IsPrimitiveElement c (slice_set instances at (with_part w.frame.kept p) ++ []) (w.known ++ []) (length places) y f) same
                  (record {
                    instance_kept = with_part w.frame.kept p;
                    instance_there = changed-there instances at (with_part w.frame.kept p) [] at-within;
                    part_there = slice_get-last w.frame.kept.parts p;
                    used = w.frame.used;
                    instance_is_there = slice_get-more w.known [] at w.frame.used w.frame.instance_is_there;
                    scope_element = l;
                    scope_element_there = at-scope_element l ls e;
                    path = refl;
                    meaning = r.meaning;
                    text = r.replaced;
                    first = refl;
                  })),
            )
        the-primitive_element l ls e r (suc j) q h = absurd (cc h)
