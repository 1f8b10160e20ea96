-- In a sound configuration each element has a class, and the elements of a scope have different
-- names.
use Rattle.std.proofs.Common.{◌≡◌, ◌≢◌, inl, inr, ℕ, zero, suc, ◌+◌, ◌<◌, List, [], ◌∷◌, ◌++◌, map, length, Bool, true, Option, Some, None, refl, sym, ap, ◌∙◌, subst, arith, Contains}
use Rattle.std.specs.List.{slice_get}
use Rattle.std.proofs.lemmas.Bool.{cases_order, or_left, or_right}
use Rattle.std.proofs.lemmas.Slice.Eq.{bytes_eq-Decides}
use Rattle.click_text.specs.declared.syntax.Span.{Span}
use Rattle.click_text.specs.declared.syntax.ClassReference.TheVariants as class
use Rattle.click_text.specs.declared.syntax.Head.{Head}
use Rattle.click_text.specs.declared.syntax.Head.TheVariants as head
use Rattle.click_text.specs.declared.syntax.Statement.{Statement}
use Rattle.click_text.specs.declared.syntax.Config.{Config}
use Rattle.click_text.specs.Spans.{bytes_at}
use Rattle.click_scopes.specs.Scopes.{Scope, inside, is_body, formals_of, Stands}
use Rattle.click_scopes.specs.Classes.{Meaning, compound, class_meaning}
use Rattle.click_scopes.specs.Elements.{Placed, Role, pseudo, refers, makes, role, made_name, count_with, head_class, element_meaning, ScopeElement, scope_element, scope_element_by, scope_elements_from}
use Rattle.click_base.specs.NameLists.{has_name}
use Rattle.click_scopes.specs.Faults.{scope_placed, scope_declared, elements_of_scope, role_in, unknown_name, unknown_class, unknown_declared, named_twice, formal_twice, first_token, IsFaultless}
use Rattle.click_scopes.specs.declared.fault.WrongUse.TheVariants as kind
use Rattle.click_scopes.proofs.OfBodies.EarlierBodies.{scope_element-made}
use Rattle.click_scopes.proofs.OfLists.ListParts.{contains-behind, map-contains, contains-split, contains-at, at-place}
use Rattle.click_scopes.proofs.OfBodies.OneBodyPlace.{contains-nil, contains-cons}

pub name-has : (names : List (List ℕ)) (n : List ℕ) → Contains names n → has_name n names ≡ true
name-has [] n h = absurd (contains-nil n h)
name-has (m ∷ names) n h =
    elim (contains-cons m names n h) [
      | inl e ↦ or_left _ _ ((bytes_eq-Decides n m).1 (sym e))
      | inr i ↦ or_right _ _ (name-has names n i)
    ]

module _ (c : Config) (sound : IsFaultless c) (s : Scope) (visible : List Statement) (enclosing : List Scope) (stands : Stands c s visible enclosing) where
  unknown-by : (p : Placed) (h : Head) (t : Option Span) → Contains (scope_placed c s visible) p → role_in c s visible p ≡ makes → p.element.head ≡ h → p.element.text ≡ t →
      element_meaning c.text p ≡ None → ⊥
  unknown-by p (head.Word w) None i m e f n =
      let r = contains-split (scope_placed c s visible) p i in sound kind.UnknownName w (unknown_name s visible enclosing r.0 r.1 p w stands r.2 m e f n)
  unknown-by p (head.Word w) (Some string) i m e f n =
      let r = contains-split (scope_placed c s visible) p i in sound kind.UnknownClass w (unknown_class s visible enclosing r.0 r.1 p w string stands r.2 e f n)
  unknown-by p (head.Declared d (class.Named w)) t i m e f n =
      let r = contains-split (scope_placed c s visible) p i in sound kind.UnknownClass w (unknown_declared s visible enclosing r.0 r.1 p d w stands r.2 e n)
  unknown-by p (head.Declared d (class.Body b)) t i m e f n =
      let g : Some (compound b) ≡ None = sym (ap (λ x. class_meaning c.text p.visible (head_class x)) e) ∙ n in cc
  unknown-by p (head.Compound b) t i m e f n =
      let g : Some (compound b) ≡ None = sym (ap (λ x. class_meaning c.text p.visible (head_class x)) e) ∙ n in cc

  -- a written element that makes one has a class
  pub written-meant : (p : Placed) → Contains (scope_placed c s visible) p → role_in c s visible p ≡ makes → element_meaning c.text p ≢ None
  written-meant p i m n = unknown-by p p.element.head p.element.text i m refl refl n

  some-of : {X : Type 0} (o : Option X) → o ≢ None → (x : X) × (o ≡ Some x)
  some-of None h = absurd (h refl)
  some-of (Some x) h = (x, refl)

  -- each element of the scope has a class
  pub meant : (l : ScopeElement) → Contains (elements_of_scope c s visible) l → (m : Meaning) × (l.meaning ≡ Some m)
  meant l i =
      let r = scope_element-made c.text (is_body s) (scope_declared c s visible) 0 (scope_placed c s visible) l i in
      some-of l.meaning (λ n. written-meant r.element r.there r.makes (sym (ap (λ (x : ScopeElement). x.meaning) r.is) ∙ n))

  pub meant-at : (i : ℕ) (l : ScopeElement) → slice_get (elements_of_scope c s visible) i ≡ Some l → (m : Meaning) × (l.meaning ≡ Some m)
  meant-at i l e = meant l (contains-at (elements_of_scope c s visible) i l e)

-- The element at index j among those that these written elements make, after n others.
pub record IsNth (text : List ℕ) (in_body : Bool) (declared : List (List ℕ)) (n : ℕ) (ps : List Placed) (j : ℕ) (l : ScopeElement) : Type 0 where
  pub front : List Placed
  pub back : List Placed
  pub element : Placed
  pub splits : ps ≡ front ++ element ∷ back
  pub makes : role text in_body declared element.element ≡ makes
  pub count : length (scope_elements_from text in_body declared n front) ≡ j
  pub is : l ≡ scope_element text (n + j) element
  pub before : (i : ℕ) → i < j → slice_get (scope_elements_from text in_body declared n ps) i ≡ slice_get (scope_elements_from text in_body declared n front) i

module _ (text : List ℕ) (in_body : Bool) (declared : List (List ℕ)) where
  pub scope_elements-cons : (n : ℕ) (p : Placed) (ps : List Placed) (r : Role) → role text in_body declared p.element ≡ r →
      scope_elements_from text in_body declared n (p ∷ ps) ≡ scope_element_by r (scope_element text n p) (scope_elements_from text in_body declared (count_with r n) ps)
  unfolding scope_elements_from
  scope_elements-cons n p ps r e = ap (λ x. scope_element_by x (scope_element text n p) (scope_elements_from text in_body declared (count_with x n) ps)) e

  scope_elements-none : (n : ℕ) → scope_elements_from text in_body declared n [] ≡ []
  unfolding scope_elements_from
  scope_elements-none n = refl

  -- one more element before it
  nth-behind : (n j : ℕ) (p : Placed) (ps : List Placed) (l : ScopeElement) → role text in_body declared p.element ≡ makes → IsNth text in_body declared (n + 1) ps j l →
      IsNth text in_body declared n (p ∷ ps) (suc j) l
  nth-behind n j p ps l e r = record {
    front = p ∷ r.front;
    back = r.back;
    element = r.element;
    splits = ap (λ x. p ∷ x) r.splits;
    makes = r.makes;
    count = ap length (scope_elements-cons n p r.front makes e) ∙ ap suc r.count;
    is = r.is ∙ ap (λ k. scope_element text k r.element) (omega arith);
    before = λ i h.
        ap (λ x. slice_get x i) (scope_elements-cons n p ps makes e) ∙ next i h ∙ sym (ap (λ x. slice_get x i) (scope_elements-cons n p r.front makes e));
  }
    where
      next : (i : ℕ) → i < suc j → slice_get (scope_element text n p ∷ scope_elements_from text in_body declared (n + 1) ps) i ≡ slice_get (scope_element text n p ∷ scope_elements_from text in_body declared (n + 1) r.front) i
      next zero h = refl
      next (suc i) h = r.before i (omega (arith, h))

  nth-first : (n : ℕ) (p : Placed) (ps : List Placed) (l : ScopeElement) → role text in_body declared p.element ≡ makes → scope_element text n p ≡ l → IsNth text in_body declared n (p ∷ ps) 0 l
  nth-first n p ps l e h = record {
    front = [];
    back = ps;
    element = p;
    splits = refl;
    makes = e;
    count = ap length (scope_elements-none n);
    is = sym h ∙ ap (λ k. scope_element text k p) (omega arith);
    before = λ i k. absurd (omega (arith, k));
  }

  -- a written element before it that makes none
  nth-past : (n j : ℕ) (p : Placed) (ps : List Placed) (l : ScopeElement) (r : Role) → role text in_body declared p.element ≡ r →
      ((m : ℕ) (qs : List Placed) → scope_elements_from text in_body declared m (p ∷ qs) ≡ scope_elements_from text in_body declared m qs) → IsNth text in_body declared n ps j l →
      IsNth text in_body declared n (p ∷ ps) j l
  nth-past n j p ps l r e same k = record {
    front = p ∷ k.front;
    back = k.back;
    element = k.element;
    splits = ap (λ x. p ∷ x) k.splits;
    makes = k.makes;
    count = ap length (same n k.front) ∙ k.count;
    is = k.is;
    before = λ i h. ap (λ x. slice_get x i) (same n ps) ∙ k.before i h ∙ sym (ap (λ x. slice_get x i) (same n k.front));
  }

  nth-by : (n j : ℕ) (p : Placed) (ps : List Placed) (l : ScopeElement) (r : Role) → role text in_body declared p.element ≡ r →
      slice_get (scope_element_by r (scope_element text n p) (scope_elements_from text in_body declared (count_with r n) ps)) j ≡ Some l →
      ((m k : ℕ) → slice_get (scope_elements_from text in_body declared m ps) k ≡ Some l → IsNth text in_body declared m ps k l) → IsNth text in_body declared n (p ∷ ps) j l
  nth-by n zero p ps l makes e h f = nth-first n p ps l e (cc)
  nth-by n (suc j) p ps l makes e h f = nth-behind n j p ps l e (f (n + 1) j h)
  nth-by n j p ps l refers e h f = nth-past n j p ps l refers e (λ m qs. scope_elements-cons m p qs refers e) (f n j h)
  nth-by n j p ps l pseudo e h f = nth-past n j p ps l pseudo e (λ m qs. scope_elements-cons m p qs pseudo e) (f n j h)

  pub nth-scope_element : (n j : ℕ) (ps : List Placed) (l : ScopeElement) → slice_get (scope_elements_from text in_body declared n ps) j ≡ Some l → IsNth text in_body declared n ps j l
  nth-scope_element n j [] l h = let e : None ≡ Some l = sym (ap (λ x. slice_get x j) (scope_elements-none n)) ∙ h in absurd (cc)
  nth-scope_element n j (p ∷ ps) l h =
      let r = role text in_body declared p.element in
      nth-by n j p ps l r refl (sym (ap (λ x. slice_get x j) (scope_elements-cons n p ps r refl)) ∙ h) (λ m k i. nth-scope_element m k ps l i)

module _ (c : Config) (sound : IsFaultless c) (s : Scope) (visible : List Statement) (enclosing : List Scope) (stands : Stands c s visible enclosing) where
  -- no element has the name of an earlier one
  pub not-twice : (i j : ℕ) (l m : ScopeElement) → i < j → slice_get (elements_of_scope c s visible) i ≡ Some l → slice_get (elements_of_scope c s visible) j ≡ Some m → l.name ≡ m.name → ⊥
  not-twice i j l m less a b e =
      let d = scope_declared c s visible in
      let ps = scope_placed c s visible in
      let r = nth-scope_element c.text (is_body s) d 0 j ps m b in
      let earlier = scope_elements_from c.text (is_body s) d 0 r.front in
      let p = r.element in
      let name = made_name c.text (length earlier) p.element.head in
      let same : m.name ≡ name =
      ap (λ (x : ScopeElement). x.name) r.is ∙ ap (λ k. made_name c.text k p.element.head) (let k = r.count in omega (arith, k)) in
      let there : Contains earlier l = contains-at earlier i l (sym (r.before i less) ∙ a) in
      let taken : has_name name (map (λ (x : ScopeElement). x.name) earlier) ≡ true =
      name-has (map (λ (x : ScopeElement). x.name) earlier) name
      (subst (Contains (map (λ (x : ScopeElement). x.name) earlier)) (e ∙ same) (map-contains (λ (x : ScopeElement). x.name) earlier l there)) in
      let written : Contains ps p = subst (λ x. Contains x p) (sym r.splits) (split-contains r.front p r.back) in
      sound kind.DeclaredTwice (first_token c p.element.head)
      (named_twice s visible enclosing r.front r.back p stands r.splits r.makes (inr (written-meant c sound s visible enclosing stands p written r.makes)) taken)
    where
      split-contains : (front : List Placed) (p : Placed) (back : List Placed) → Contains (front ++ p ∷ back) p
      split-contains [] p back = (zero, omega arith, refl)
      split-contains (q ∷ front) p back = contains-behind q (front ++ p ∷ back) p (split-contains front p back)

  -- the elements of the scope have different names
  pub distinct : (i j : ℕ) (l m : ScopeElement) → slice_get (elements_of_scope c s visible) i ≡ Some l → slice_get (elements_of_scope c s visible) j ≡ Some m → l.name ≡ m.name → i ≡ j
  distinct i j l m a b e =
      elim (cases_order i j) [
        | inl h ↦ h
        | inr (inl h) ↦ absurd (not-twice i j l m h a b e)
        | inr (inr h) ↦ absurd (not-twice j i m l h b a (sym e))
      ]

module _ (c : Config) (sound : IsFaultless c) (b : ℕ) (visible : List Statement) (enclosing : List Scope) (stands : Stands c (inside b) visible enclosing) where
  formal-not-twice : (i j : ℕ) (f g : Span) → i < j → slice_get (formals_of c (inside b)) i ≡ Some f → slice_get (formals_of c (inside b)) j ≡ Some g →
      bytes_at c.text f ≡ bytes_at c.text g → ⊥
  formal-not-twice i j f g less h k e =
      let r = at-place (formals_of c (inside b)) j g k in
      let there : Contains r.front f = contains-at r.front i f (sym (r.before i less) ∙ h) in
      sound kind.DeclaredTwice g
      (formal_twice b visible enclosing r.front r.back g stands r.is
      (name-has (map (bytes_at c.text) r.front) (bytes_at c.text g)
      (subst (Contains (map (bytes_at c.text) r.front)) e (map-contains (bytes_at c.text) r.front f there))))

  -- the parameters of a body have different names
  pub formals-distinct : (i j : ℕ) (f g : Span) → slice_get (formals_of c (inside b)) i ≡ Some f → slice_get (formals_of c (inside b)) j ≡ Some g →
      bytes_at c.text f ≡ bytes_at c.text g → i ≡ j
  formals-distinct i j f g h k e =
      elim (cases_order i j) [
        | inl q ↦ q
        | inr (inl q) ↦ absurd (formal-not-twice i j f g q h k e)
        | inr (inr q) ↦ absurd (formal-not-twice j i g f q k h (sym e))
      ]
