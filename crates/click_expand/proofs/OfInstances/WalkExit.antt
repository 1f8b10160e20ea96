-- The walk leaves an instance that has all its parts, and ends after the whole text.
use Rattle.std.proofs.Common.{◌≡◌, inl, inr, ℕ, ◌<◌, ◌≤◌, List, [], ◌∷◌, ◌++◌, length, Option, Some, None, refl, sym, ap, ◌∙◌, subst, arith}
use Rattle.std.specs.List.{slice_get}
use Rattle.std.proofs.lemmas.Bool.{cases_order}
use Rattle.std.proofs.lemmas.Option.{slice_get_within}
use Rattle.std.proofs.lemmas.List.{append-nil}
use Rattle.click_text.specs.declared.syntax.Config.{Config}
use Rattle.click_scopes.specs.Elements.{ScopeElement}
use Rattle.click_expand.specs.Instances.{PrimitiveElement, ArePrimitiveElements}
use Rattle.click_expand.specs.Parameters.{value_in}
use Rattle.click_expand.specs.kept.KnownInstances.{KnownInstance, scope_elements_at, IsEnclosing, IsLexicalParent, IsPart, IsInstance, AreInstances}
use Rattle.click_expand.specs.declared.instances.tree.Place.{Place}
use Rattle.click_expand.specs.declared.instances.tree.Instance.{Instance}
use Rattle.click_expand.proofs.OfInstances.LexicalParents.{same_some, IsLexicalParentKept, agree-value}
use Rattle.click_expand.proofs.OfInstances.InstanceParts.{slice_get-there, IsSoFar}
use Rattle.click_expand.proofs.OfInstances.Frames.{IsFull, Frame, Chain, outermost, within, Walking, IsWalked, end-case, at-so_far}

module _ (c : Config) where
  lexical_parent-value : (known : List KnownInstance) (u : ℕ) (x : KnownInstance) (o : Option ℕ) → IsLexicalParentKept c known u x o → IsLexicalParent c known u x o
  lexical_parent-value known u x None h = h
  lexical_parent-value known u x (Some w) h = (h.0, (h.1.0, h.1.1, h.1.2, λ name. agree-value c x.bindings h.1.0.bindings x.enclosing name h.1.3 ∙ value-along h.1.0 h.1.2 name))
    where
      value-along : (y : KnownInstance) → x.enclosing ≡ y.scope ∷ y.enclosing → (name : List ℕ) → value_in c y.bindings x.enclosing name ≡ value_in c y.bindings (y.scope ∷ y.enclosing) name
      value-along y e name = ap (λ ss. value_in c y.bindings ss name) e

  -- an instance that has all its parts
  full-use : (instances : List Instance) (places : List Place) (known : List KnownInstance) (u : ℕ) (k : Instance) (x : KnownInstance) → length k.parts ≡ length (scope_elements_at c x) → IsSoFar c instances places known u k x → IsInstance c instances places known u k x
  full-use instances places known u k x e h = record {
    stands = h.stands;
    scope = h.scope;
    leads = h.leads;
    enclosing = h.enclosing;
    lexical_parent = lexical_parent-value known u x k.lexical_parent h.lexical_parent;
    parts = record {
      as_many = e;
      each = λ i l g.
          let n = slice_get_within (scope_elements_at c x) i l g in
          let p = slice_get-there k.parts i (omega (arith, n, e)) in
          let r = h.parts i p.0 p.1 in
          (p.0, p.1, subst (λ (y : ScopeElement). IsPart instances places u i y p.0) (same_some (sym r.1 ∙ g)) r.2);
    };
    own = h.own;
  }

  module _ (instances : List Instance) (places : List Place) (at : ℕ) (primitive_elements : List PrimitiveElement) (n : ℕ) (w : Walking c instances places at primitive_elements n) (none : w.frame.rest ≡ []) where
    -- the current instance has all its parts, and so do those after it
    full-here : length w.frame.kept.parts ≡ length (scope_elements_at c w.frame.used)
    full-here = w.frame.as_far ∙ sym (ap length (w.frame.splits ∙ ap (λ xs. w.frame.done ++ xs) none ∙ append-nil w.frame.done))

    full-behind : (u : ℕ) (k : Instance) → at ≤ u → u < length instances → slice_get instances u ≡ Some k → IsFull c w.known u k
    full-behind u k a b e =
        elim (cases_order u at) [
          | inl s ↦
              (let same : w.frame.kept ≡ k = same_some (sym w.frame.kept_there ∙ ap (slice_get instances) (sym s) ∙ e) in (
                w.frame.used,
                ap (slice_get w.known) s ∙ w.frame.instance_is_there,
                subst (λ (q : Instance). length q.parts ≡ length (scope_elements_at c w.frame.used)) same full-here,
              ))
          | inr (inl s) ↦ absurd (omega (arith, s, a))
          | inr (inr s) ↦ (let t = w.upper_is in w.frame.full u k s (omega (arith, b, t)) e)
        ]

    last-leads : (w.inner ≡ []) × (w.m ≡ 0)
    last-leads =
        let x = w.frame.used in
        end-case c x.scope x.enclosing x.path x.bindings w.inner w.m (subst (λ xs. ArePrimitiveElements c x.scope x.enclosing x.path x.bindings xs w.inner w.m) none w.frame.leads)

    pub record IsBack (p : Place) : Type 0 where
      pub below : p.within < at
      pub walking : Walking c instances places p.within primitive_elements n

    back : (p : Place) (outer : List PrimitiveElement) (k : ℕ) → outer ≡ w.outer → k ≡ w.k → Chain c instances w.known at (Some p) outer k → IsBack p
    back p outer k eo ek (within upper q inner further m j f l h) =
        let ll = last-leads in
        let count = w.count in let zero-m = ll.1 in
        record {
          below = l;
          walking = record {
            known = w.known;
            done = w.done;
            kept = w.kept;
            inner = inner;
            outer = further;
            m = m;
            k = j;
            splits = w.splits ∙ ap (λ xs. w.done ++ (xs ++ w.outer)) ll.0 ∙ ap (λ xs. w.done ++ xs) (sym eo);
            count = omega (arith, count, zero-m, ek);
            upper = length instances;
            upper_is = refl;
            frame = record {
              used = f.used;
              instance_is_there = f.instance_is_there;
              kept = f.kept;
              kept_there = f.kept_there;
              done = f.done;
              rest = f.rest;
              splits = f.splits;
              as_far = f.as_far;
              leads = f.leads;
              full = λ u k2 a b e. full-from p f u k2 a b e;
            };
            chain = h;
          };
        }
      where
        full-from : (p : Place) {inner : List PrimitiveElement} {m : ℕ} (f : Frame c instances w.known at p.within inner m) (u : ℕ) (k : Instance) → p.within < u → u < length instances → slice_get instances u ≡ Some k → IsFull c w.known u k
        full-from p f u k a b e =
            elim (cases_order u at) [
              | inl s ↦ full-behind u k (omega (arith, s)) b e
              | inr (inl s) ↦ f.full u k a s e
              | inr (inr s) ↦ full-behind u k (omega (arith, s)) b e
            ]

    pub walking-back : (p : Place) → w.frame.kept.enclosing ≡ Some p → IsBack p
    walking-back p e = back p w.outer w.k refl refl (subst (λ o. Chain c instances w.known at o w.outer w.k) e w.chain)

    ended : (outer : List PrimitiveElement) (k : ℕ) → Chain c instances w.known at None outer k → outer ≡ []
    ended outer k (outermost upper) = refl

    -- the whole text has all its parts, and so does each instance
    pub walked : w.frame.kept.enclosing ≡ None → IsWalked c instances places primitive_elements
    walked e =
        let start : at ≡ 0 = (subst (IsEnclosing c w.known at w.frame.used) e (at-so_far c instances places at primitive_elements n w).enclosing).0 in
        let all : primitive_elements ≡ w.done =
        w.splits ∙ ap (λ xs. w.done ++ (xs ++ w.outer)) last-leads.0
        ∙ ap (λ xs. w.done ++ xs) (ended w.outer w.k (subst (λ o. Chain c instances w.known at o w.outer w.k) e w.chain)) ∙ append-nil w.done in (
          w.known,
          subst (AreInstances c instances places w.known) (sym all) (record {
            as_many = w.kept.as_many;
            as_many_primitive_elements = w.kept.as_many_primitive_elements;
            first = w.kept.first;
            each = λ u k g.
                let r = w.kept.each u k g in
                let b = slice_get_within instances u k g in
                let f = full-behind u k (omega (arith, start)) b g in
                let same : f.0 ≡ r.0 = same_some (sym f.1 ∙ r.1) in
                (r.0, r.1, full-use instances places w.known u k r.0 (f.2 ∙ ap (λ (x : KnownInstance). length (scope_elements_at c x)) same) r.2);
            primitive_element = w.kept.primitive_element;
          }),
        )
