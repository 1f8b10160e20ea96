-- The walk enters an instance of a body.
use Rattle.std.proofs.Common.{◌≡◌, ℕ, suc, zero, ◌+◌, ◌<◌, List, [], ◌∷◌, ◌++◌, length, Some, refl, sym, ap, ◌∙◌, subst, append_assoc, arith}
use Rattle.std.specs.List.{slice_get, slice_set}
use Rattle.std.proofs.lemmas.List.{append-nil, length-set, length_push}
use Rattle.click_text.specs.declared.syntax.Config.{Config}
use Rattle.click_scopes.specs.Scopes.{inside}
use Rattle.click_scopes.specs.Classes.{compound}
use Rattle.click_scopes.specs.Elements.{ScopeElement}
use Rattle.click_scopes.specs.Faults.{elements_of_scope}
use Rattle.click_expand.specs.Instances.{PrimitiveElement, ArePrimitiveElements, to_inner}
use Rattle.click_scopes.specs.kept.Nesting.{IsNested}
use Rattle.click_scopes.specs.kept.AllScopes.{AreAllScopes}
use Rattle.click_expand.specs.kept.KnownInstances.{KnownInstance, scope_elements_at, IsInner}
use Rattle.click_expand.specs.kept.InstanceWalk.{with_part, instance_without_parts, element_place, IsLexicalParentIn}
use Rattle.click_scopes.specs.declared.scopes.Scope.{Scope as ScopeKept}
use Rattle.click_scopes.specs.kept.Lookups.{parent_by}
use Rattle.click_expand.specs.declared.instances.tree.InstancePart.{InstancePart}
use Rattle.click_expand.specs.declared.instances.tree.InstancePart.TheVariants as part
use Rattle.click_expand.specs.declared.instances.tree.Place.{Place}
use Rattle.click_expand.specs.declared.instances.tree.Instance.{Instance}
use Rattle.click_scopes.proofs.OfLists.StatementTables.{slice_get-more, slice_get-last}
use Rattle.click_expand.proofs.OfInstances.LexicalParents.{same_some, IsLexicalParentKept, AreLexicalParents, new-lexical_parent}
use Rattle.click_expand.proofs.OfInstances.InstanceParts.{changed-there, changed-behind, IsSoFar, Kept, kept-added}
use Rattle.click_expand.proofs.OfInstances.Frames.{Chain, within, Walking, InnerCase, inner-case, founded-enclosing, at-so_far, at-within, at-scope_element, frame-part, chain-changed}

-- the lexical parents of the instances so far
pub lexical_parents-kept : (c : Config) (instances : List Instance) (places : List Place) (known : List KnownInstance) (done : List PrimitiveElement) → Kept c instances places known done → AreLexicalParents c instances known
lexical_parents-kept c instances places known done w = record { each = λ u k e. let r = w.each u k e in (r.0, r.1, r.2.stands, r.2.scope, r.2.lexical_parent) }

module _ (c : Config) (nested : IsNested c) (ks : List ScopeKept) (scopes : AreAllScopes c ks) where
  module _ (instances : List Instance) (places : List Place) (at : ℕ) (primitive_elements : List PrimitiveElement) (n : ℕ) (w : Walking c instances places at primitive_elements n) where
    module _ (b lexical_parent : ℕ) (l : ScopeElement) (ls : List ScopeElement) (e : w.frame.rest ≡ l ∷ ls) (meaning : l.meaning ≡ Some (compound b)) (found : IsLexicalParentIn instances (parent_by (slice_get ks b)) at lexical_parent) where
      abbrev outside : KnownInstance
      outside = w.frame.used

      -- the part that is added
      abbrev added : InstancePart
      added = part.Inner (length instances)

      abbrev here : Place
      here = element_place at (length w.frame.kept.parts)

      abbrev fresh : Instance
      fresh = instance_without_parts b (Some here) (Some lexical_parent)

      abbrev new : List Instance
      new = slice_set instances at (with_part w.frame.kept added) ++ fresh ∷ []

      the-case : InnerCase c w.frame.used.scope w.frame.used.enclosing w.frame.used.path w.frame.used.bindings l ls b w.inner w.m
      the-case =
          inner-case c outside.scope outside.enclosing outside.path outside.bindings l ls b w.inner w.m meaning
          (subst (λ xs. ArePrimitiveElements c outside.scope outside.enclosing outside.path outside.bindings xs w.inner w.m) e w.frame.leads)

      abbrev entered : KnownInstance
      entered = record {
        scope = inside b;
        visible = the-case.visible;
        enclosing = the-case.outer;
        path = outside.path ++ l.name ∷ [];
        bindings = (b, the-case.values) ∷ outside.bindings;
      }

      so_far : IsSoFar c instances places w.known at w.frame.kept w.frame.used
      so_far = at-so_far c instances places at primitive_elements n w

      there : slice_get (scope_elements_at c w.frame.used) (length w.frame.kept.parts) ≡ Some l
      there = at-scope_element c instances places at primitive_elements n w l ls e

      below : at < length instances
      below = at-within c instances places at primitive_elements n w

      lexical_parent-of-it : IsLexicalParentKept c (w.known ++ entered ∷ []) (length instances) entered (Some lexical_parent)
      lexical_parent-of-it =
          let f = founded-enclosing c nested outside (length w.frame.kept.parts) b l the-case.visible the-case.outer so_far.stands there meaning the-case.stands in
          let h = new-lexical_parent c nested instances w.known (lexical_parents-kept c instances places w.known w.done w.kept) ks scopes at lexical_parent b outside the-case.visible the-case.outer f.0 the-case.values
          w.frame.instance_is_there f.1 the-case.stands found in
          let k = h.1 in let m = below in
          (omega (arith, k, m), (h.0, slice_get-more w.known (entered ∷ []) lexical_parent h.0 h.2, h.3, h.4))

      inner-of-it : IsInner c w.frame.used entered (length w.frame.kept.parts)
      inner-of-it = record {
        scope_element = l;
        there = there;
        body = b;
        meaning = meaning;
        scope = refl;
        path = refl;
        spans = the-case.spans;
        arguments = the-case.arguments;
        values = the-case.values;
        replaced = the-case.replaced;
        bindings = refl;
      }

      fresh-so_far : IsSoFar c new (places ++ []) (w.known ++ entered ∷ []) (length instances) fresh entered
      fresh-so_far = record {
        stands = the-case.stands;
        scope = refl;
        leads = to_inner outside.path outside.scope outside.visible w.frame.done ls l b the-case.visible the-case.outer so_far.leads
            (w.frame.splits ∙ ap (λ xs. w.frame.done ++ xs) e) meaning the-case.stands;
        enclosing = (below, (outside, slice_get-more w.known (entered ∷ []) at outside w.frame.instance_is_there, inner-of-it));
        lexical_parent = lexical_parent-of-it;
        parts = λ i q g. absurd (cc g);
        own = λ q g.
            let same : here ≡ q = same_some g in
            subst (λ (y : Place). (o : Instance) × (slice_get new y.within ≡ Some o) × (slice_get o.parts y.element ≡ Some (part.Inner (length instances)))) same
            (with_part w.frame.kept added, changed-there instances at (with_part w.frame.kept added) (fresh ∷ []) below, slice_get-last w.frame.kept.parts added);
      }

      new-there : slice_get new (length instances) ≡ Some fresh
      new-there =
          let none : length instances ≡ length instances + 0 = omega arith in
          ap (slice_get new) none ∙ changed-behind instances at (with_part w.frame.kept added) (fresh ∷ []) 0

      new-use : (j : ℕ) (q : Instance) → slice_get (fresh ∷ []) j ≡ Some q →
          (y : KnownInstance) × (slice_get (entered ∷ []) j ≡ Some y) × IsSoFar c new (places ++ []) (w.known ++ entered ∷ []) (length instances + j) q y
      new-use zero q g =
          let same : fresh ≡ q = same_some g in
          let none : length instances ≡ length instances + 0 = omega arith in (
            entered,
            refl,
            subst (λ u. IsSoFar c new (places ++ []) (w.known ++ entered ∷ []) u q entered) none
                (subst (λ (y : Instance). IsSoFar c new (places ++ []) (w.known ++ entered ∷ []) (length instances) y entered) same fresh-so_far),
          )
      new-use (suc j) q g = absurd (cc g)

      kept-entered : Kept c new places (w.known ++ entered ∷ []) w.done
      kept-entered =
          subst (λ xs. Kept c new xs (w.known ++ entered ∷ []) w.done) (append-nil places)
          (subst (λ xs. Kept c new (places ++ []) (w.known ++ entered ∷ []) xs) (append-nil w.done)
          (kept-added c instances places w.known w.done at w.frame.kept outside added (fresh ∷ []) [] (entered ∷ []) []
          (record {
            there = w.frame.kept_there;
            used = w.frame.instance_is_there;
            scope_element = l;
            scope_element_there = there;
            part = (b, meaning, (fresh, new-there, (here, refl, refl, refl)));
            uses_match = refl;
            primitive_elements_match = refl;
            new_instances = new-use;
            new_primitive_elements = λ j q g. absurd (cc g);
          })
          w.kept))

      -- the new instance is the current one
      pub walking-inner : Walking c new places (length instances) primitive_elements n
      walking-inner =
          let g = frame-part c instances places at primitive_elements n w added (fresh ∷ []) (entered ∷ []) (length instances) l ls the-case.primitive_elements the-case.k refl e the-case.rest in
          let same : length w.known ≡ length instances = w.kept.as_many in
          let len : length new ≡ length instances + 1 =
          length_push (slice_set instances at (with_part w.frame.kept added)) fresh ∙ ap (λ x. x + 1) (length-set instances at (with_part w.frame.kept added)) in
          let count = w.count in let rc = the-case.count in
          record {
            known = w.known ++ entered ∷ [];
            done = w.done;
            kept = kept-entered;
            inner = the-case.inner;
            outer = the-case.primitive_elements ++ w.outer;
            m = the-case.m;
            k = the-case.k + w.k;
            splits = w.splits ∙ ap (λ xs. w.done ++ (xs ++ w.outer)) the-case.is ∙ ap (λ xs. w.done ++ xs) (append_assoc the-case.inner the-case.primitive_elements w.outer);
            count = omega (arith, len, count, rc);
            upper = length instances + 1;
            upper_is = sym len;
            frame = record {
              used = entered;
              instance_is_there = ap (slice_get (w.known ++ entered ∷ [])) (sym same) ∙ slice_get-last w.known entered;
              kept = fresh;
              kept_there = new-there;
              done = [];
              rest = elements_of_scope c (inside b) the-case.visible;
              splits = refl;
              as_far = refl;
              leads = the-case.leads;
              full = λ u k a d q. absurd (omega (arith, a, d));
            };
            chain = within (length instances) here the-case.primitive_elements w.outer the-case.k w.k g.0 below
                (subst (λ a. Chain c new (w.known ++ entered ∷ []) at a w.outer w.k) (sym g.1) (chain-changed c instances places at primitive_elements n w added (fresh ∷ []) (entered ∷ [])));
          }
