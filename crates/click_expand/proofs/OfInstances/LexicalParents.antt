-- The lexical parent of an instance: the instance of the scope in which its body is written.
use Rattle.std.proofs.Common.{◌≡◌, ◌⊎◌, inl, inr, ℕ, ◌<◌, ◌≤◌, List, [], ◌∷◌, ◌++◌, length, Bool, true, false, cond, eqb, Option, Some, None, refl, sym, ap, ◌∙◌, subst, arith, Contains}
use Rattle.std.specs.List.{slice_get}
use Rattle.std.proofs.lemmas.Bool.{ne_eqb, eqb-false, eqb-true}
use Rattle.click_text.specs.declared.syntax.Statement.{Statement}
use Rattle.click_text.specs.declared.syntax.Config.{Config}
use Rattle.click_scopes.specs.Scopes.{Scope, whole, inside, statements_of, formals_of, Stands, at_top, nested}
use Rattle.click_expand.specs.Parameters.{Bindings, arguments_for, argument_of, first_value, scope_value, value_in}
use Rattle.click_scopes.specs.kept.Nesting.{direct, IsNested}
use Rattle.click_scopes.specs.kept.Scoped.{table_place, outer_of}
use Rattle.click_scopes.specs.kept.AllScopes.{AreAllScopes}
use Rattle.click_expand.specs.kept.KnownInstances.{KnownInstance}
use Rattle.click_expand.specs.kept.InstanceWalk.{Follows, here, after_lexical_parent, IsLexicalParentIn}
use Rattle.click_scopes.specs.declared.scopes.Scope.{Scope as ScopeKept}
use Rattle.click_scopes.specs.kept.Lookups.{parent_by}
use Rattle.click_expand.specs.declared.instances.tree.Instance.{Instance}
use Rattle.click_scopes.proofs.OfBodies.OneBodyPlace.{direct-has, child-range, nested_body-range, place-in, stands-once}

-- the arguments are the same for each of these scopes
abbrev pub Agree : Config → Bindings → Bindings → List Scope → Type 0
Agree c a b [] = Unit {0}
Agree c a b (s ∷ ss) = ((name : List ℕ) → scope_value c a s name ≡ scope_value c b s name) × Agree c a b ss

-- the instance of the scope around the scope of an instance, with the same arguments for the scopes
-- around
abbrev pub IsLexicalParentKept : Config → List KnownInstance → ℕ → KnownInstance → Option ℕ → Type 0
IsLexicalParentKept c known u x None = x.enclosing ≡ []
IsLexicalParentKept c known u x (Some w) =
    (w < u) × ((y : KnownInstance) × (slice_get known w ≡ Some y) × (x.enclosing ≡ y.scope ∷ y.enclosing) × Agree c x.bindings y.bindings x.enclosing)

pub same_some : {X : Type 0} {x y : X} → Some x ≡ Some y → x ≡ y
same_some h = cc h

module _ (c : Config) where
  agree-refl : (a : Bindings) (ss : List Scope) → Agree c a a ss
  agree-refl a [] = tt
  agree-refl a (s ∷ ss) = (λ name. refl, agree-refl a ss)

  pub agree-join : (a b d : Bindings) (ss : List Scope) → Agree c a b ss → Agree c b d ss → Agree c a d ss
  agree-join a b d [] h k = tt
  agree-join a b d (s ∷ ss) h k = (λ name. h.0 name ∙ k.0 name, agree-join a b d ss h.1 k.1)

  pub agree-value : (a b : Bindings) (ss : List Scope) (name : List ℕ) → Agree c a b ss → value_in c a ss name ≡ value_in c b ss name
  agree-value a b [] name h = refl
  agree-value a b (s ∷ ss) name h =
      ap (λ o. first_value o (value_in c a ss name)) (h.0 name) ∙ ap (first_value (scope_value c b s name)) (agree-value a b ss name h.1)

  -- each of these scopes has a higher index than b
  abbrev Above : ℕ → List Scope → Type 0
  Above b [] = Unit {0}
  Above b (s ∷ ss) = (b < table_place c s) × Above b ss

  above-less : (b q : ℕ) (ss : List Scope) → b < q → Above q ss → Above b ss
  above-less b q [] l h = tt
  above-less b q (s ∷ ss) l h = (let k = h.0 in omega (arith, l, k), above-less b q ss l h.1)

  eqb-less : (b q : ℕ) → b < q → eqb b q ≡ false
  eqb-less b q l = ne_eqb b q (λ e. omega (arith, l, e))

  value-new : (b : ℕ) (values : List (List ℕ)) (bs : Bindings) (s : Scope) (name : List ℕ) → b < table_place c s →
      scope_value c ((b, values) ∷ bs) s name ≡ scope_value c bs s name
  value-new b values bs whole name l = refl
  value-new b values bs (inside q) name l =
      ap (λ (t : Bool). argument_of c.text (formals_of c (inside q)) (cond t values (arguments_for bs q)) name) (eqb-less b q l)

  -- the arguments of a body are not those of a scope around it
  agree-new : (b : ℕ) (values : List (List ℕ)) (bs : Bindings) (ss : List Scope) → Above b ss → Agree c ((b, values) ∷ bs) bs ss
  agree-new b values bs [] h = tt
  agree-new b values bs (s ∷ ss) h = (λ name. value-new b values bs s name h.0, agree-new b values bs ss h.1)

  enclosing-whole : (v : List Statement) (a : List Scope) → Stands c whole v a → a ≡ []
  enclosing-whole v a at_top = refl

  body-below : IsNested c → (t : Scope) (b : ℕ) → Contains (direct (statements_of c t)) b → b < table_place c t
  body-below n whole b i = (nested_body-range c.bodies 0 (direct c.statements) (length c.bodies) b n i).1
  body-below n (inside q) b i = (child-range c.bodies 0 (direct c.statements) (length c.bodies) q b n (omega arith) (place-in c.bodies q b i) i).1

  by_enclosing : (b : ℕ) (t : Scope) (v : List Statement) (a : List Scope) → Stands c t v a → b < table_place c t → ((q : ℕ) → t ≡ inside q → Above q a) → Above b (t ∷ a)
  by_enclosing b whole v a h l f = (l, subst (Above b) (sym (enclosing-whole v a h)) tt)
  by_enclosing b (inside q) v a h l f = (l, above-less b q a l (f q refl))

  above : IsNested c → (s : Scope) (v : List Statement) (a : List Scope) → Stands c s v a → (b : ℕ) → s ≡ inside b → Above b a
  above n s v a at_top b q = tt
  above n s v a (nested t visible enclosing before after st p h e i) b q =
      let same : p ≡ b = cc q in
      let l : p < table_place c t = body-below n t p (subst (λ x. Contains (direct x) p) (sym e) (direct-has c.bodies before st after p i)) in
      subst (λ m. Above m (t ∷ enclosing)) same (by_enclosing p t visible enclosing h l (λ r k. above n t visible enclosing h r k))

  below-all : IsNested c → (t : Scope) (b : ℕ) → Contains (direct (statements_of c t)) b → b < length c.bodies
  below-all n whole b i = body-below n whole b i
  below-all n (inside q) b i = let l = body-below n (inside q) b i in let m = place-in c.bodies q b i in omega (arith, l, m)

  pub inside-within : IsNested c → (s : Scope) (v : List Statement) (a : List Scope) → Stands c s v a → (p : ℕ) → s ≡ inside p → p < length c.bodies
  inside-within n s v a at_top p q = absurd (cc q)
  inside-within n s v a (nested t visible enclosing before after st b h e i) p q =
      let same : b ≡ p = cc q in
      let l = below-all n t b (subst (λ x. Contains (direct x) b) (sym e) (direct-has c.bodies before st after b i)) in
      omega (arith, l, same)

  -- the scope around a body, and the scopes around that
  pub record IsNext (o : List Scope) : Type 0 where
    pub scope : Scope
    pub visible : List Statement
    pub enclosing : List Scope
    pub is : o ≡ scope ∷ enclosing
    pub stands : Stands c scope visible enclosing

  pub next-of : (s : Scope) (v : List Statement) (o : List Scope) (b : ℕ) → Stands c s v o → s ≡ inside b → IsNext o
  next-of s v o b at_top q = absurd (cc q)
  next-of s v o b (nested t visible enclosing before after st p h e i) q = record { scope = t; visible = visible; enclosing = enclosing; is = refl; stands = h }

  place-once : IsNested c → (s t : Scope) (v w : List Statement) (a d : List Scope) → Stands c s v a → Stands c t w d → table_place c s ≡ table_place c t → s ≡ t
  place-once n whole whole v w a d h k e = refl
  place-once n whole (inside q) v w a d h k e = let l = inside-within n (inside q) w d k q refl in absurd (omega (arith, l, e))
  place-once n (inside p) whole v w a d h k e = let l = inside-within n (inside p) v a h p refl in absurd (omega (arith, l, e))
  place-once n (inside p) (inside q) v w a d h k e = ap inside e

  -- the lexical parents of the instances so far
  pub record AreLexicalParents (instances : List Instance) (known : List KnownInstance) : Type 0 where
    pub each : (u : ℕ) (k : Instance) → slice_get instances u ≡ Some k → (x : KnownInstance) × (slice_get known u ≡ Some x)
        × Stands c x.scope x.visible x.enclosing × (k.scope ≡ table_place c x.scope) × IsLexicalParentKept c known u x k.lexical_parent

  -- an instance on the way from an instance to the lexical parent of a body that is used there
  pub record IsOnWay (known : List KnownInstance) (bs : Bindings) (outer : List Scope) (u w : ℕ) : Type 0 where
    pub used : KnownInstance
    pub there : slice_get known w ≡ Some used
    pub front : List Scope
    pub splits : used.scope ∷ used.enclosing ≡ front ++ outer
    pub agree : Agree c bs used.bindings (used.scope ∷ used.enclosing)
    pub within : w ≤ u

  lexical_parent-of : (b : Bool) (h : Option ℕ) (w : ℕ) → cond b None h ≡ Some w → (b ≡ false) × (h ≡ Some w)
  lexical_parent-of true h w e = absurd (cc e)
  lexical_parent-of false h w e = (refl, e)

  no-lexical_parent : (b : Bool) (h : Option ℕ) → cond b None h ≡ None → (b ≡ true) ⊎ (h ≡ None)
  no-lexical_parent true h e = inl refl
  no-lexical_parent false h e = inr e

  module _ (instances : List Instance) (known : List KnownInstance) (lexical_parents : AreLexicalParents instances known) (bs : Bindings) (outer : List Scope) (next : IsNext outer) where
    outward : (u w v : ℕ) (k : Instance) → slice_get instances w ≡ Some k → (k.scope ≡ outer_of c outer → ⊥) → k.lexical_parent ≡ Some v → IsOnWay known bs outer u w → IsOnWay known bs outer u v
    outward u w v k e apart h way = by_front way.front way.splits
      where
        known_here : (x : KnownInstance) × (slice_get known w ≡ Some x) × Stands c x.scope x.visible x.enclosing × (k.scope ≡ table_place c x.scope) × IsLexicalParentKept c known w x k.lexical_parent
        known_here = lexical_parents.each w k e

        same : known_here.0 ≡ way.used
        same = same_some (sym known_here.1 ∙ way.there)

        place : k.scope ≡ table_place c way.used.scope
        place = known_here.3 ∙ ap (λ (x : KnownInstance). table_place c x.scope) same

        lexical_parent : IsLexicalParentKept c known w way.used (Some v)
        lexical_parent = subst (IsLexicalParentKept c known w way.used) h (subst (λ (x : KnownInstance). IsLexicalParentKept c known w x k.lexical_parent) same known_here.4)

        by_front : (front : List Scope) → way.used.scope ∷ way.used.enclosing ≡ front ++ outer → IsOnWay known bs outer u v
        by_front [] s = let t : outer_of c (way.used.scope ∷ way.used.enclosing) ≡ outer_of c outer = ap (outer_of c) s in absurd (apart (place ∙ t))
        by_front (f ∷ front) s =
            let t : way.used.enclosing ≡ front ++ outer = cc s in
            let y = lexical_parent.1.0 in
            let l = lexical_parent.0 in let m = way.within in
            record {
              used = y;
              there = lexical_parent.1.1;
              front = front;
              splits = sym lexical_parent.1.2 ∙ t;
              agree = subst (Agree c bs y.bindings) lexical_parent.1.2 (agree-join bs way.used.bindings y.bindings way.used.enclosing way.agree.1 lexical_parent.1.3);
              within = omega (arith, l, m);
            }

    follow : (scope u w : ℕ) → scope ≡ outer_of c outer → Follows instances scope u w → IsOnWay known bs outer u u → IsOnWay known bs outer u w
    follow scope u w q (here v) way = way
    follow scope u w q (after_lexical_parent v x y k f e h) way =
        let r = lexical_parent-of (eqb k.scope scope) k.lexical_parent y h in
        outward u x y k e (λ s. eqb-false k.scope scope r.0 (s ∙ sym q)) r.1 (follow scope u x q f way)

    -- the lexical parent that was found
    pub record IsFound (u w : ℕ) : Type 0 where
      pub used : KnownInstance
      pub there : slice_get known w ≡ Some used
      pub is : outer ≡ used.scope ∷ used.enclosing
      pub agree : Agree c bs used.bindings outer
      pub within : w ≤ u

    last-is : IsNested c → (x : KnownInstance) (front : List Scope) → Stands c x.scope x.visible x.enclosing → x.scope ∷ x.enclosing ≡ front ++ outer →
        (table_place c x.scope ≡ outer_of c outer) ⊎ (x.enclosing ≡ []) → outer ≡ x.scope ∷ x.enclosing
    last-is n x front h s (inl e) =
        let q : x.scope ≡ next.scope =
        place-once n x.scope next.scope x.visible next.visible x.enclosing next.enclosing h next.stands (e ∙ ap (outer_of c) next.is) in
        let r = stands-once c n next.scope x.visible next.visible x.enclosing next.enclosing (subst (λ t. Stands c t x.visible x.enclosing) q h) next.stands in
        next.is ∙ sym (ap (λ t. t ∷ x.enclosing) q ∙ ap (λ a. next.scope ∷ a) r.1)
    last-is n x [] h s (inr e) = sym s
    last-is n x (f ∷ front) h s (inr e) =
        let t : front ++ outer ≡ [] = cc (s, e) in
        absurd (no-behind front next.scope next.enclosing (ap (λ o. front ++ o) (sym next.is) ∙ t))
      where
        no-behind : (front : List Scope) (t : Scope) (a : List Scope) → front ++ t ∷ a ≡ [] → ⊥
        no-behind [] t a e = cc e
        no-behind (f ∷ fs) t a e = cc e

    pub found : IsNested c → (u w scope : ℕ) → scope ≡ outer_of c outer → IsLexicalParentIn instances scope u w → IsOnWay known bs outer u u → IsFound u w
    found n u w scope q h way =
        let r = follow scope u w q h.follows way in
        let k = lexical_parents.each w h.instance_kept h.there in
        let same : k.0 ≡ r.used = same_some (sym k.1 ∙ r.there) in
        let st : Stands c r.used.scope r.used.visible r.used.enclosing = subst (λ (x : KnownInstance). Stands c x.scope x.visible x.enclosing) same k.2 in
        let place : h.instance_kept.scope ≡ table_place c r.used.scope = k.3 ∙ ap (λ (x : KnownInstance). table_place c x.scope) same in
        let lexical_parent : IsLexicalParentKept c known w r.used h.instance_kept.lexical_parent = subst (λ (x : KnownInstance). IsLexicalParentKept c known w x h.instance_kept.lexical_parent) same k.4 in
        let is : outer ≡ r.used.scope ∷ r.used.enclosing =
        last-is n r.used r.front st r.splits (elim (no-lexical_parent (eqb h.instance_kept.scope scope) h.instance_kept.lexical_parent h.ends) [
          | inl t ↦ inl (sym place ∙ eqb-true h.instance_kept.scope scope t ∙ q)
          | inr t ↦ inr (subst (IsLexicalParentKept c known w r.used) t lexical_parent)
        ]) in
        record { used = r.used; there = r.there; is = is; agree = subst (Agree c bs r.used.bindings) (sym is) r.agree; within = r.within }

  -- the lexical parent of a new instance of a body that is used in another instance
  pub new-lexical_parent : IsNested c → (instances : List Instance) (known : List KnownInstance) → AreLexicalParents instances known → (ks : List ScopeKept) → AreAllScopes c ks →
      (u w b : ℕ) (o : KnownInstance) (v : List Statement) (outer front : List Scope) (values : List (List ℕ)) → slice_get known u ≡ Some o → o.scope ∷ o.enclosing ≡ front ++ outer →
      Stands c (inside b) v outer → IsLexicalParentIn instances (parent_by (slice_get ks b)) u w →
      (y : KnownInstance) × (w ≤ u) × (slice_get known w ≡ Some y) × (outer ≡ y.scope ∷ y.enclosing) × Agree c ((b, values) ∷ o.bindings) y.bindings outer
  new-lexical_parent n instances known lexical_parents ks scopes u w b o v outer front values e s h k =
      let t = scopes (inside b) v outer h in
      let q : parent_by (slice_get ks b) ≡ outer_of c outer = ap parent_by t.1 ∙ t.2.parent in
      let r = found instances known lexical_parents o.bindings outer (next-of (inside b) v outer b h refl) n u w (parent_by (slice_get ks b)) q k
      (record { used = o; there = e; front = front; splits = s; agree = agree-refl o.bindings (o.scope ∷ o.enclosing); within = omega arith }) in (
        r.used,
        r.within,
        r.there,
        r.is,
        agree-join ((b, values) ∷ o.bindings) o.bindings r.used.bindings outer (agree-new b values o.bindings outer (above n (inside b) v outer h b refl)) r.agree,
      )
