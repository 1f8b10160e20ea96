-- An element of a scope that means a body means one with a lower index than the scope, which is in
-- the scope or in a scope around it.
use Rattle.std.proofs.Common.{◌≡◌, inl, inr, ℕ, ◌+◌, ◌<◌, ◌≤◌, List, [], ◌∷◌, ◌++◌, map, reverse, Bool, true, false, Option, Some, None, option_map, refl, sym, ap, ◌∙◌, subst, append_assoc, arith, Contains}
use Rattle.std.specs.Prelude.{if◌then◌else◌}
use Rattle.std.specs.List.{slice_get}
use Rattle.std.specs.Str.{bytes_eq}
use Rattle.std.proofs.lemmas.List.Elements.{Contains-append_left, Contains-append_right, Contains-append_cases}
use Rattle.click_text.specs.declared.syntax.Span.{Span}
use Rattle.click_text.specs.declared.syntax.ClassReference.{ClassReference}
use Rattle.click_text.specs.declared.syntax.ClassReference.TheVariants as class
use Rattle.click_text.specs.declared.syntax.Head.{Head}
use Rattle.click_text.specs.declared.syntax.Head.TheVariants as head
use Rattle.click_text.specs.declared.syntax.Element.{Element}
use Rattle.click_text.specs.declared.syntax.Link.{Link}
use Rattle.click_base.specs.Classes.{class_of, gateway_class_of}
use Rattle.click_base.specs.declared.class.Class.{Class}
use Rattle.click_text.specs.declared.syntax.Statement.{Statement}
use Rattle.click_text.specs.declared.syntax.Statement.TheVariants as statement
use Rattle.click_text.specs.declared.syntax.Body.{Body}
use Rattle.click_text.specs.declared.syntax.Config.{Config}
use Rattle.click_text.specs.Spans.{bytes_at}
use Rattle.click_text.specs.Grammar.{element}
use Rattle.click_scopes.specs.Scopes.{Scope, inside, is_body, statements_of, statement_elements, class_bodies, head_bodies, link_bodies, bodies_in, Stands, at_top, nested}
use Rattle.click_scopes.specs.Classes.{Meaning, primitive, compound, meaning, class_meaning, class_or, requires_gateway}
use Rattle.click_scopes.specs.Elements.{Placed, place, placed, Role, pseudo, refers, makes, role, count_with, head_class, element_meaning, ScopeElement, scope_element, scope_element_by, scope_elements_from}
use Rattle.click_scopes.specs.Faults.{scope_placed, scope_declared, elements_of_scope}
use Rattle.click_scopes.specs.kept.Nesting.{direct, Nests, no_bodies, next_body, IsNested}
use Rattle.click_scopes.specs.kept.Scoped.{table_place}
use Rattle.click_scopes.proofs.OfBodies.OneBodyPlace.{contains-nil, contains-cons, inner, nests-order, nested_body-range, direct-has}
use Rattle.click_scopes.proofs.OfLists.ListParts.{contains-here, contains-behind, contains-map, reverse-cons, contains-reverse, contains-split, contains-at}

-- The statement that contains the written element.
pub record IsPlaced (visible statements : List Statement) (p : Placed) : Type 0 where
  pub before : List Statement
  pub after : List Statement
  pub statement : Statement
  pub splits : statements ≡ before ++ statement ∷ after
  pub behind : p.visible ≡ reverse before ++ visible
  pub there : Contains (statement_elements statement) p.element

pub placed-there : (visible ss : List Statement) (p : Placed) → Contains (placed visible ss) p → IsPlaced visible ss p
placed-there visible [] p h = absurd (contains-nil p h)
placed-there visible (s ∷ ss) p h =
    elim (Contains-append_cases (map (place visible) (statement_elements s)) (placed (s ∷ visible) ss) p h) [
      | inl i ↦
          (let r = contains-map (place visible) (statement_elements s) p i in
          record {
            before = [];
            after = ss;
            statement = s;
            splits = refl;
            behind = sym (ap (λ (q : Placed). q.visible) r.2);
            there = subst (λ (q : Placed). Contains (statement_elements s) q.element) r.2 r.1;
          })
      | inr j ↦
          (let r = placed-there (s ∷ visible) ss p j in
          record {
            before = s ∷ r.before;
            after = r.after;
            statement = r.statement;
            splits = ap (λ x. s ∷ x) r.splits;
            behind = r.behind ∙ sym (ap (λ x. x ++ visible) (reverse-cons s r.before) ∙ append_assoc (reverse r.before) (s ∷ []) visible);
            there = r.there;
          })
    ]

-- An element of a scope is made by one of its written elements.
pub record IsMade (text : List ℕ) (in_body : Bool) (declared : List (List ℕ)) (ps : List Placed) (l : ScopeElement) : Type 0 where
  pub number : ℕ
  pub element : Placed
  pub there : Contains ps element
  pub makes : role text in_body declared element.element ≡ makes
  pub is : l ≡ scope_element text number element

module _ (text : List ℕ) (in_body : Bool) (declared : List (List ℕ)) where
  made-behind : (p : Placed) (ps : List Placed) (l : ScopeElement) → IsMade text in_body declared ps l → IsMade text in_body declared (p ∷ ps) l
  made-behind p ps l m = record { number = m.number; element = m.element; there = contains-behind p ps m.element m.there; makes = m.makes; is = m.is }

  made-by : (n : ℕ) (p : Placed) (ps : List Placed) (ls : List ScopeElement) (l : ScopeElement) (r : Role) → role text in_body declared p.element ≡ r →
      Contains (scope_element_by r (scope_element text n p) ls) l → (Contains ls l → IsMade text in_body declared ps l) → IsMade text in_body declared (p ∷ ps) l
  made-by n p ps ls l makes e h f =
      elim (contains-cons (scope_element text n p) ls l h) [
        | inl i ↦ record { number = n; element = p; there = contains-here p ps; makes = e; is = sym i }
        | inr j ↦ made-behind p ps l (f j)
      ]
  made-by n p ps ls l refers e h f = made-behind p ps l (f h)
  made-by n p ps ls l pseudo e h f = made-behind p ps l (f h)

  pub scope_element-made : (n : ℕ) (ps : List Placed) (l : ScopeElement) → Contains (scope_elements_from text in_body declared n ps) l → IsMade text in_body declared ps l
  unfolding scope_elements_from
  scope_element-made n [] l h = absurd (contains-nil l h)
  scope_element-made n (p ∷ ps) l h =
      let r = role text in_body declared p.element in
      made-by n p ps (scope_elements_from text in_body declared (count_with r n) ps) l r refl h (λ i. scope_element-made (count_with r n) ps l i)

-- the bodies in the head of an element
module _ (b : ℕ) where
  head-body : (h : Head) → head_class h ≡ class.Body b → Contains (head_bodies h) b
  head-body (head.Word s) e = absurd (cc)
  head-body (head.Declared s c) e = subst (λ x. Contains (class_bodies x) b) (sym e) (contains-here b [])
  head-body (head.Compound d) e = let f : d ≡ b = cc in subst (Contains (d ∷ [])) f (contains-here d [])

  link-body : (ls : List Link) (e : Element) → Contains (map (λ l. l.element) ls) e → head_class e.head ≡ class.Body b → Contains (link_bodies ls) b
  link-body [] e h k = absurd (contains-nil e h)
  link-body (l ∷ ls) e h k =
      elim (contains-cons l.element (map (λ l. l.element) ls) e h) [
        | inl i ↦ Contains-append_left (head_bodies l.element.head) (link_bodies ls) b (head-body l.element.head (ap (λ (x : Element). head_class x.head) i ∙ k))
        | inr j ↦ Contains-append_right (head_bodies l.element.head) (link_bodies ls) b (link-body ls e j k)
      ]

  pub element-body : (st : Statement) (e : Element) → Contains (statement_elements st) e → head_class e.head ≡ class.Body b → Contains (bodies_in st) b
  element-body (statement.Chain c) e h k =
      elim (contains-cons c.first (map (λ l. l.element) c.links) e h) [
        | inl i ↦ Contains-append_left (head_bodies c.first.head) (link_bodies c.links) b (head-body c.first.head (ap (λ (x : Element). head_class x.head) i ∙ k))
        | inr j ↦ Contains-append_right (head_bodies c.first.head) (link_bodies c.links) b (link-body c.links e j k)
      ]
  element-body (statement.Declaration d) e h k =
      let r = contains-map (λ n. element (head.Declared n d.class) d.text) d.names e h in
      subst (λ x. Contains (class_bodies x) b) (sym (ap (λ (x : Element). head_class x.head) r.2 ∙ k)) (contains-here b [])
  element-body (statement.Definition n d) e h k = absurd (contains-nil e h)
  element-body (statement.Synonym n d) e h k = absurd (contains-nil e h)
  element-body (statement.Requirement t) e h k = absurd (contains-nil e h)

-- a definition of the body is visible
abbrev Defines : List Statement → ℕ → Type 0
Defines v b = (n : Span) × Contains v (statement.Definition n b)

defines-behind : (st : Statement) (v : List Statement) (b : ℕ) → Defines v b → Defines (st ∷ v) b
defines-behind st v b d = (d.0, contains-behind st v (statement.Definition d.0 b) d.1)

not-primitive : (k : Option Class) (b : ℕ) → option_map primitive k ≡ Some (compound b) → ⊥
not-primitive None b e = cc
not-primitive (Some k) b e = cc

by-definition : (v : List Statement) (n : Span) (d b : ℕ) (m : Option Meaning) (t : Bool) → (if t then Some (compound d) else m) ≡ Some (compound b) →
    (m ≡ Some (compound b) → Defines v b) → Defines (statement.Definition n d ∷ v) b
by-definition v n d b m true e f =
    let i : d ≡ b = cc in (n, subst (λ x. Contains (statement.Definition n d ∷ v) (statement.Definition n x)) i (contains-here (statement.Definition n d) v))
by-definition v n d b m false e f = defines-behind (statement.Definition n d) v b (f e)

by-synonym : (v : List Statement) (b : ℕ) (m k : Option Meaning) (t : Bool) → (if t then m else k) ≡ Some (compound b) → (m ≡ Some (compound b) → Defines v b) →
    (k ≡ Some (compound b) → Defines v b) → Defines v b
by-synonym v b m k true e f g = f e
by-synonym v b m k false e f g = g e

by-gateway : (k : Option Class) (m : Option Meaning) (b : ℕ) (t : Bool) → (if t then class_or k m else m) ≡ Some (compound b) → m ≡ Some (compound b)
by-gateway k m b false e = e
by-gateway None m b true e = e
by-gateway (Some c) m b true e = cc

pub defined : (text : List ℕ) (v : List Statement) (w : List ℕ) (b : ℕ) → meaning text v w ≡ Some (compound b) → Defines v b
unfolding meaning
defined text [] w b e = absurd (not-primitive (class_of w) b e)
defined text (statement.Definition n d ∷ v) w b e =
    by-definition v n d b (meaning text v w) (bytes_eq (bytes_at text n) w) e (λ h. defined text v w b h)
defined text (statement.Synonym n d ∷ v) w b e =
    defines-behind (statement.Synonym n d) v b
    (by-synonym v b (meaning text v (bytes_at text d)) (meaning text v w) (bytes_eq (bytes_at text n) w) e (λ h. defined text v (bytes_at text d) b h) (λ h. defined text v w b h))
defined text (statement.Chain k ∷ v) w b e = defines-behind (statement.Chain k) v b (defined text v w b e)
defined text (statement.Declaration k ∷ v) w b e = defines-behind (statement.Declaration k) v b (defined text v w b e)
defined text (statement.Requirement k ∷ v) w b e =
    defines-behind (statement.Requirement k) v b (defined text v w b (by-gateway (gateway_class_of w) (meaning text v w) b (requires_gateway text k) e))

-- The body is in one of these scopes, and its index is below the limit.
pub record IsKnown (c : Config) (scopes : List Scope) (b limit : ℕ) : Type 0 where
  pub inner : List Statement
  pub parent : List Scope
  pub stands : Stands c (inside b) inner parent
  pub below : b < limit
  pub front : List Scope
  pub is : scopes ≡ front ++ parent

direct-append : (xs ys : List Statement) → direct (xs ++ ys) ≡ direct xs ++ direct ys
direct-append [] ys = refl
direct-append (x ∷ xs) ys = ap (λ z. bodies_in x ++ z) (direct-append xs ys) ∙ sym (append_assoc (bodies_in x) (direct xs) (direct ys))

module _ (bodies : List Body) where
  -- the bodies inside body p come after the bodies xs
  record StartsAt (a : ℕ) (xs : List ℕ) (p : ℕ) : Type 0 where
    pub start : ℕ
    pub nests : Nests bodies start (inner bodies p) p
    pub from : a ≤ start
    pub behind : (b : ℕ) → Contains xs b → b < start

  starts-here : (a : ℕ) (ys : List ℕ) (z p : ℕ) → Nests bodies a ys z → Contains ys p → StartsAt a [] p
  starts-here a ys z p (no_bodies at) i = absurd (contains-nil p i)
  starts-here a ys z p (next_body from c to bs n h k) i =
      let o = nests-order bodies from (inner bodies c) c h in
      elim (contains-cons c bs p i) [
        | inl e ↦ record { start = from; nests = subst (λ x. Nests bodies from (inner bodies x) x) e h; from = omega arith; behind = λ b j. absurd (contains-nil b j) }
        | inr j ↦ (let r = starts-here (c + 1) bs to p k j in let f = r.from in record { start = r.start; nests = r.nests; from = omega arith; behind = r.behind })
      ]

  starts : (a : ℕ) (xs ys : List ℕ) (z p : ℕ) → Nests bodies a (xs ++ ys) z → Contains ys p → StartsAt a xs p
  starts a [] ys z p h i = starts-here a ys z p h i
  starts a (x ∷ xs) ys z p (next_body from c to bs n h k) i =
      let o = nests-order bodies a (inner bodies x) x h in
      let r = starts (x + 1) xs ys z p k i in
      let f = r.from in
      record {
        start = r.start;
        nests = r.nests;
        from = omega arith;
        behind = λ b j. elim (contains-cons x xs b j) [ inl e ↦ omega (arith, e, f) | inr l ↦ r.behind b l ];
      }

-- The bodies of a scope come after all bodies that are defined before it.
record IsStarted (c : Config) (s : Scope) (visible : List Statement) (enclosing : List Scope) : Type 0 where
  pub start : ℕ
  pub nests : Nests c.bodies start (direct (statements_of c s)) (table_place c s)
  pub each : (n : Span) (b : ℕ) → Contains visible (statement.Definition n b) → IsKnown c enclosing b start

known-more : (c : Config) (s : Scope) (scopes : List Scope) (b limit more : ℕ) → limit ≤ more → IsKnown c scopes b limit → IsKnown c (s ∷ scopes) b more
known-more c s scopes b limit more l k =
    let m = k.below in record { inner = k.inner; parent = k.parent; stands = k.stands; below = omega arith; front = s ∷ k.front; is = ap (λ x. s ∷ x) k.is }

-- a body that is defined in a scope
known-here : (c : Config) (s : Scope) (visible : List Statement) (enclosing : List Scope) (before rest : List Statement) (n : Span) (b limit : ℕ) → Stands c s visible enclosing →
    statements_of c s ≡ before ++ rest → Contains before (statement.Definition n b) → b < limit → IsKnown c (s ∷ enclosing) b limit
known-here c s visible enclosing before rest n b limit h e i l =
    let r = contains-split before (statement.Definition n b) i in
    record {
      inner = reverse r.0 ++ visible;
      parent = s ∷ enclosing;
      stands = nested s visible enclosing r.0 (r.1 ++ rest) (statement.Definition n b) b h
          (e ∙ ap (λ x. x ++ rest) r.2 ∙ append_assoc r.0 (statement.Definition n b ∷ r.1) rest) (contains-here b []);
      below = l;
      front = [];
      is = refl;
    }

direct-part : (before : List Statement) (st : Statement) (b : ℕ) → Contains before st → Contains (bodies_in st) b → Contains (direct before) b
direct-part [] st b h i = absurd (contains-nil st h)
direct-part (x ∷ xs) st b h i =
    elim (contains-cons x xs st h) [
      | inl e ↦ Contains-append_left (bodies_in x) (direct xs) b (subst (λ y. Contains (bodies_in y) b) (sym e) i)
      | inr j ↦ Contains-append_right (bodies_in x) (direct xs) b (direct-part xs st b j i)
    ]

started : (c : Config) → IsNested c → (s : Scope) (visible : List Statement) (enclosing : List Scope) → Stands c s visible enclosing → IsStarted c s visible enclosing
started c m s visible enclosing at_top = record { start = 0; nests = m; each = λ n b h. absurd (contains-nil (statement.Definition n b) h) }
started c m s visible enclosing (nested t v a before after st p h e i) =
    let r = started c m t v a h in
    let k = starts c.bodies r.start (direct before) (direct (st ∷ after)) (table_place c t) p
    (subst (λ x. Nests c.bodies r.start x (table_place c t)) (ap direct e ∙ direct-append before (st ∷ after)) r.nests) (Contains-append_left (bodies_in st) (direct after) p i) in
    record {
      start = k.start;
      nests = k.nests;
      each = λ n b j. elim (Contains-append_cases (reverse before) v (statement.Definition n b) j) [
        | inl q ↦
            (let g = contains-reverse before (statement.Definition n b) q in
            known-here c t v a before (st ∷ after) n b k.start h e g (k.behind b (direct-part before (statement.Definition n b) b g (contains-here b []))))
        | inr q ↦ known-more c t a b r.start k.start k.from (r.each n b q)
      ];
    }

-- a body whose definition is visible at a statement of a scope
known-behind : (c : Config) → IsNested c → (s : Scope) (visible : List Statement) (enclosing : List Scope) (before rest : List Statement) (b : ℕ) → Stands c s visible enclosing →
    statements_of c s ≡ before ++ rest → Defines (reverse before ++ visible) b → IsKnown c (s ∷ enclosing) b (table_place c s)
known-behind c m s visible enclosing before rest b h e d =
    let r = started c m s visible enclosing h in
    let n = d.0 in
    let o = nests-order c.bodies r.start (direct (statements_of c s)) (table_place c s) r.nests in
    elim (Contains-append_cases (reverse before) visible (statement.Definition n b) d.1) [
      | inl q ↦
          (let g = contains-reverse before (statement.Definition n b) q in
          let i : Contains (direct (statements_of c s)) b =
          subst (λ x. Contains x b) (sym (ap direct e ∙ direct-append before rest)) (Contains-append_left (direct before) (direct rest) b (direct-part before (statement.Definition n b) b g (contains-here b []))) in
          known-here c s visible enclosing before rest n b (table_place c s) h e g (nested_body-range c.bodies r.start (direct (statements_of c s)) (table_place c s) b r.nests i).1)
      | inr q ↦ known-more c s enclosing b r.start (table_place c s) o (r.each n b q)
    ]

-- a body in a statement of a scope
known-body : (c : Config) → IsNested c → (s : Scope) (visible : List Statement) (enclosing : List Scope) (before after : List Statement) (st : Statement) (b : ℕ) →
    Stands c s visible enclosing → statements_of c s ≡ before ++ st ∷ after → Contains (bodies_in st) b → IsKnown c (s ∷ enclosing) b (table_place c s)
known-body c m s visible enclosing before after st b h e i =
    let r = started c m s visible enclosing h in
    let j : Contains (direct (statements_of c s)) b = subst (λ x. Contains (direct x) b) (sym e) (direct-has c.bodies before st after b i) in
    record {
      inner = reverse before ++ visible;
      parent = s ∷ enclosing;
      stands = nested s visible enclosing before after st b h e i;
      below = (nested_body-range c.bodies r.start (direct (statements_of c s)) (table_place c s) b r.nests j).1;
      front = [];
      is = refl;
    }

by-class : (c : Config) → IsNested c → (s : Scope) (visible : List Statement) (enclosing : List Scope) (p : Placed) (b : ℕ) (k : ClassReference) → Stands c s visible enclosing →
    IsPlaced visible (statements_of c s) p → head_class p.element.head ≡ k → class_meaning c.text p.visible k ≡ Some (compound b) → IsKnown c (s ∷ enclosing) b (table_place c s)
by-class c m s visible enclosing p b (class.Named w) h i e f =
    known-behind c m s visible enclosing i.before (i.statement ∷ i.after) b h i.splits
    (defined c.text (reverse i.before ++ visible) (bytes_at c.text w) b (sym (ap (λ x. meaning c.text x (bytes_at c.text w)) i.behind) ∙ f))
by-class c m s visible enclosing p b (class.Body d) h i e f =
    let g : d ≡ b = cc in
    known-body c m s visible enclosing i.before i.after i.statement b h i.splits (element-body b i.statement p.element i.there (e ∙ ap class.Body g))

-- a written element of a scope that means a body
pub founded-written : (c : Config) → IsNested c → (s : Scope) (visible : List Statement) (enclosing : List Scope) → Stands c s visible enclosing → (p : Placed) (b : ℕ) →
    Contains (scope_placed c s visible) p → element_meaning c.text p ≡ Some (compound b) → IsKnown c (s ∷ enclosing) b (table_place c s)
founded-written c m s visible enclosing h p b i e =
    by-class c m s visible enclosing p b (head_class p.element.head) h (placed-there visible (statements_of c s) p i) refl e

-- an element of a scope that means a body
pub founded : (c : Config) → IsNested c → (s : Scope) (visible : List Statement) (enclosing : List Scope) → Stands c s visible enclosing → (l : ScopeElement) (b : ℕ) →
    Contains (elements_of_scope c s visible) l → l.meaning ≡ Some (compound b) → IsKnown c (s ∷ enclosing) b (table_place c s)
founded c m s visible enclosing h l b i e =
    let r = scope_element-made c.text (is_body s) (scope_declared c s visible) 0 (scope_placed c s visible) l i in
    founded-written c m s visible enclosing h r.element b r.there (sym (ap (λ (x : ScopeElement). x.meaning) r.is) ∙ e)

-- an element of a scope, by its index, that means a body
pub founded-at : (c : Config) → IsNested c → (s : Scope) (visible : List Statement) (enclosing : List Scope) → Stands c s visible enclosing → (i : ℕ) (l : ScopeElement) (b : ℕ) →
    slice_get (elements_of_scope c s visible) i ≡ Some l → l.meaning ≡ Some (compound b) → IsKnown c (s ∷ enclosing) b (table_place c s)
founded-at c m s visible enclosing h i l b there e = founded c m s visible enclosing h l b (contains-at (elements_of_scope c s visible) i l there) e
