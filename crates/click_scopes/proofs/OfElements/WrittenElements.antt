-- The stored elements of a scope are those that its written elements make.
use Rattle.std.proofs.Common.{◌≡◌, ℕ, suc, zero, ◌+◌, List, [], ◌∷◌, ◌++◌, map, take, length, Bool, Option, Some, None, refl, sym, ap, ◌∙◌, arith, add-zero}
use Rattle.std.specs.List.{slice_get, cons_option}
use Rattle.std.specs.Option.{option_map}
use Rattle.std.proofs.Math.Seq.{take-append_seam}
use Rattle.std.proofs.lemmas.Option.{slice_get-map}
use Rattle.std.proofs.lemmas.List.{take-map, map-append}
use Rattle.std.proofs.lemmas.List.Elements.{filter_map-append}
use Rattle.click_text.specs.declared.syntax.Element.{Element}
use Rattle.click_scopes.specs.Elements.{Placed, Role, pseudo, refers, makes, role, scope_element, ScopeElement, scope_elements_from}
use Rattle.click_scopes.specs.kept.Tables.{scope_element_of}
use Rattle.click_scopes.specs.kept.ScopeElements.{string_where_made, string_made, strings_made, strings_of}
use Rattle.click_scopes.specs.kept.FirstFault.{local_names}
use Rattle.click_scopes.specs.declared.scope_elements.ScopeElement.{ScopeElement as ScopeElementKept}
use Rattle.click_scopes.proofs.OfElements.StatementElements.{scope_elements-made, scope_elements-other, scope_elements-end}

some_same : {X : Type 0} {x y : X} → Some x ≡ Some y → x ≡ y
some_same h = cc h

-- the item of a list after others
pub get-behind : {X : Type 0} (xs : List X) (x : X) (ys : List X) → slice_get (xs ++ x ∷ ys) (length xs) ≡ Some x
get-behind [] x ys = refl
get-behind (y ∷ xs) x ys = get-behind xs x ys

map-map : {X Y Z : Type 0} (f : X → Y) (g : Y → Z) (xs : List X) → map g (map f xs) ≡ map (λ x. g (f x)) xs
map-map f g [] = refl
map-map f g (x ∷ xs) = ap (λ ys. g (f x) ∷ ys) (map-map f g xs)

mapped-by : {X Y : Type 0} (f : X → Y) (xs : List X) (i : ℕ) (y : Y) → slice_get (map f xs) i ≡ Some y → (o : Option X) → slice_get xs i ≡ o →
    (x : X) × (slice_get xs i ≡ Some x) × (f x ≡ y)
mapped-by f xs i y h None e = let q : None ≡ Some y = ap (option_map f) (sym e) ∙ sym (slice_get-map f xs i) ∙ h in absurd (cc q)
mapped-by f xs i y h (Some x) e = (x, e, some_same (ap (option_map f) (sym e) ∙ sym (slice_get-map f xs i) ∙ h))

-- the item of a mapped list is the image of the item there
pub mapped-there : {X Y : Type 0} (f : X → Y) (xs : List X) (i : ℕ) (y : Y) → slice_get (map f xs) i ≡ Some y → (x : X) × (slice_get xs i ≡ Some x) × (f x ≡ y)
mapped-there f xs i y h = mapped-by f xs i y h (slice_get xs i) refl

abbrev pub elements_in : List Placed → List Element
elements_in ps = map (λ (p : Placed). p.element) ps

module _ (text : List ℕ) (in_body : Bool) (declared : List (List ℕ)) where
  abbrev pub made_from : ℕ → List Placed → List ScopeElement
  made_from n ps = scope_elements_from text in_body declared n ps

  -- A written element makes the element at index i.
  pub record MadeAt (n : ℕ) (ps : List Placed) (i : ℕ) : Type 0 where
    pub front : List Placed
    pub back : List Placed
    pub placed : Placed
    pub splits : ps ≡ front ++ placed ∷ back
    pub makes_one : role text in_body declared placed.element ≡ makes
    pub count : length (made_from n front) ≡ i

  made-here : (n : ℕ) (p : Placed) (ps : List Placed) → role text in_body declared p.element ≡ makes → MadeAt n (p ∷ ps) 0
  made-here n p ps r = record { front = []; back = ps; placed = p; splits = refl; makes_one = r; count = ap length (scope_elements-end text in_body declared n) }

  made-behind : (n i : ℕ) (p : Placed) (ps : List Placed) → role text in_body declared p.element ≡ makes → MadeAt (n + 1) ps i → MadeAt n (p ∷ ps) (suc i)
  made-behind n i p ps r h = record {
    front = p ∷ h.front;
    back = h.back;
    placed = h.placed;
    splits = ap (λ x. p ∷ x) h.splits;
    makes_one = h.makes_one;
    count = ap length (scope_elements-made text in_body declared n p h.front r) ∙ ap suc h.count;
  }

  made-beyond : (n i : ℕ) (p : Placed) (ps : List Placed) (r : Role) → role text in_body declared p.element ≡ r → (r ≡ makes → ⊥) → MadeAt n ps i → MadeAt n (p ∷ ps) i
  made-beyond n i p ps r e k h = record {
    front = p ∷ h.front;
    back = h.back;
    placed = h.placed;
    splits = ap (λ x. p ∷ x) h.splits;
    makes_one = h.makes_one;
    count = ap length (scope_elements-other text in_body declared n p h.front r e k) ∙ h.count;
  }

  made-cons : (n i : ℕ) (l : ScopeElement) (p : Placed) (ps : List Placed) → ((m j : ℕ) → slice_get (made_from m ps) j ≡ Some l → MadeAt m ps j) →
      (r : Role) → role text in_body declared p.element ≡ r → slice_get (made_from n (p ∷ ps)) i ≡ Some l → MadeAt n (p ∷ ps) i
  made-cons n zero l p ps f makes e h = made-here n p ps e
  made-cons n (suc i) l p ps f makes e h =
      made-behind n i p ps e (f (n + 1) i (ap (λ x. slice_get x (suc i)) (sym (scope_elements-made text in_body declared n p ps e)) ∙ h))
  made-cons n i l p ps f refers e h =
      made-beyond n i p ps refers e (λ q. cc q) (f n i (ap (λ x. slice_get x i) (sym (scope_elements-other text in_body declared n p ps refers e (λ q. cc q))) ∙ h))
  made-cons n i l p ps f pseudo e h =
      made-beyond n i p ps pseudo e (λ q. cc q) (f n i (ap (λ x. slice_get x i) (sym (scope_elements-other text in_body declared n p ps pseudo e (λ q. cc q))) ∙ h))

  -- each element of a scope is made by a written one
  pub made-at : (ps : List Placed) (n i : ℕ) (l : ScopeElement) → slice_get (made_from n ps) i ≡ Some l → MadeAt n ps i
  made-at [] n i l h = let q : None ≡ Some l = ap (λ x. slice_get x i) (sym (scope_elements-end text in_body declared n)) ∙ h in absurd (cc q)
  made-at (p ∷ ps) n i l h = made-cons n i l p ps (λ m j k. made-at ps m j l k) (role text in_body declared p.element) refl h

  -- What a written element makes, after the elements of those before it.
  record Split (n : ℕ) (front : List Placed) (p : Placed) (back : List Placed) : Type 0 where
    behind : List ScopeElement
    is : made_from n (front ++ p ∷ back) ≡ made_from n front ++ scope_element text (n + length (made_from n front)) p ∷ behind

  split-makes : (n : ℕ) (q : Placed) (front : List Placed) (p : Placed) (back : List Placed) → role text in_body declared q.element ≡ makes → Split (n + 1) front p back → Split n (q ∷ front) p back
  split-makes n q front p back e s =
      let x = scope_element text n q in let ys = made_from (n + 1) front in
      let here : made_from n (q ∷ front) ≡ x ∷ ys = scope_elements-made text in_body declared n q front e in
      let count : n + 1 + length ys ≡ n + length (x ∷ ys) = omega arith in
      record {
        behind = s.behind;
        is = scope_elements-made text in_body declared n q (front ++ p ∷ back) e ∙ ap (λ y. x ∷ y) s.is
            ∙ ap (λ m. x ∷ (ys ++ scope_element text m p ∷ s.behind)) count
            ∙ ap (λ y. y ++ scope_element text (n + length y) p ∷ s.behind) (sym here);
      }

  split-other : (n : ℕ) (q : Placed) (front : List Placed) (p : Placed) (back : List Placed) (r : Role) → role text in_body declared q.element ≡ r → (r ≡ makes → ⊥) →
      Split n front p back → Split n (q ∷ front) p back
  split-other n q front p back r e k s =
      let here : made_from n (q ∷ front) ≡ made_from n front = scope_elements-other text in_body declared n q front r e k in
      record {
        behind = s.behind;
        is = scope_elements-other text in_body declared n q (front ++ p ∷ back) r e k ∙ s.is ∙ ap (λ y. y ++ scope_element text (n + length y) p ∷ s.behind) (sym here);
      }

  split-cons : (n : ℕ) (q : Placed) (front : List Placed) (p : Placed) (back : List Placed) (r : Role) → role text in_body declared q.element ≡ r →
      ((m : ℕ) → Split m front p back) → Split n (q ∷ front) p back
  split-cons n q front p back makes e f = split-makes n q front p back e (f (n + 1))
  split-cons n q front p back refers e f = split-other n q front p back refers e (λ x. cc x) (f n)
  split-cons n q front p back pseudo e f = split-other n q front p back pseudo e (λ x. cc x) (f n)

  scope_elements-split : (front : List Placed) (n : ℕ) (p : Placed) (back : List Placed) → role text in_body declared p.element ≡ makes → Split n front p back
  scope_elements-split [] n p back e =
      let none : made_from n [] ≡ [] = scope_elements-end text in_body declared n in
      record {
        behind = made_from (n + 1) back;
        is = scope_elements-made text in_body declared n p back e
            ∙ ap (λ m. scope_element text m p ∷ made_from (n + 1) back) (sym (add-zero n))
            ∙ ap (λ y. y ++ scope_element text (n + length y) p ∷ made_from (n + 1) back) (sym none);
      }
  scope_elements-split (q ∷ front) n p back e = split-cons n q front p back (role text in_body declared q.element) refl (λ m. scope_elements-split front m p back e)

  count-by : (n : ℕ) (p : Placed) (ps : List Placed) (r : Role) → role text in_body declared p.element ≡ r →
      ((m : ℕ) → length (strings_made text in_body declared (elements_in ps)) ≡ length (made_from m ps)) →
      length (strings_made text in_body declared (elements_in (p ∷ ps))) ≡ length (made_from n (p ∷ ps))
  count-by n p ps makes e f =
      ap (λ r. length (cons_option (string_where_made r p.element.text) (strings_made text in_body declared (elements_in ps)))) e ∙ ap suc (f (n + 1))
      ∙ ap length (sym (scope_elements-made text in_body declared n p ps e))
  count-by n p ps refers e f =
      ap (λ r. length (cons_option (string_where_made r p.element.text) (strings_made text in_body declared (elements_in ps)))) e ∙ f n
      ∙ ap length (sym (scope_elements-other text in_body declared n p ps refers e (λ x. cc x)))
  count-by n p ps pseudo e f =
      ap (λ r. length (cons_option (string_where_made r p.element.text) (strings_made text in_body declared (elements_in ps)))) e ∙ f n
      ∙ ap length (sym (scope_elements-other text in_body declared n p ps pseudo e (λ x. cc x)))

  -- there are as many configuration strings as elements
  count-same : (ps : List Placed) (n : ℕ) → length (strings_made text in_body declared (elements_in ps)) ≡ length (made_from n ps)
  count-same [] n = ap length (sym (scope_elements-end text in_body declared n))
  count-same (p ∷ ps) n = count-by n p ps (role text in_body declared p.element) refl (λ m. count-same ps m)

  strings-split : (front : List Placed) (p : Placed) (back : List Placed) → role text in_body declared p.element ≡ makes →
      strings_made text in_body declared (elements_in (front ++ p ∷ back)) ≡
      strings_made text in_body declared (elements_in front) ++ p.element.text ∷ strings_made text in_body declared (elements_in back)
  strings-split front p back e =
      ap (strings_made text in_body declared) (map-append (λ (x : Placed). x.element) front (p ∷ back))
      ∙ filter_map-append (string_made text in_body declared) (elements_in front) (elements_in (p ∷ back))
      ∙ ap (λ r. strings_made text in_body declared (elements_in front) ++ cons_option (string_where_made r p.element.text) (strings_made text in_body declared (elements_in back))) e

  -- The stored element that a written element makes.
  pub record IsKept (ls : List ScopeElementKept) (front : List Placed) (p : Placed) : Type 0 where
    pub element : ScopeElementKept
    pub there : slice_get ls (length (made_from 0 front)) ≡ Some element
    pub made : scope_element_of text element ≡ scope_element text (length (made_from 0 front)) p
    pub string : element.text ≡ p.element.text
    pub names : local_names (take (length (made_from 0 front)) ls) ≡ map (λ (l : ScopeElement). l.name) (made_from 0 front)

  pub kept-at : (ls : List ScopeElementKept) (ps front : List Placed) (p : Placed) (back : List Placed) → map (scope_element_of text) ls ≡ made_from 0 ps →
      strings_of ls ≡ strings_made text in_body declared (elements_in ps) → ps ≡ front ++ p ∷ back → role text in_body declared p.element ≡ makes → IsKept ls front p
  kept-at ls ps front p back h g e r =
      let s = scope_elements-split front 0 p back r in
      let earlier = made_from 0 front in let i = length earlier in
      let from_none : 0 + i ≡ i = omega arith in
      let all : map (scope_element_of text) ls ≡ earlier ++ scope_element text i p ∷ s.behind = h ∙ ap (made_from 0) e ∙ s.is ∙ ap (λ m. earlier ++ scope_element text m p ∷ s.behind) from_none in
      let m = mapped-there (scope_element_of text) ls i (scope_element text i p) (ap (λ x. slice_get x i) all ∙ get-behind earlier (scope_element text i p) s.behind) in
      let fs = strings_made text in_body declared (elements_in front) in
      let strings : strings_of ls ≡ fs ++ p.element.text ∷ strings_made text in_body declared (elements_in back) =
      g ∙ ap (λ x. strings_made text in_body declared (elements_in x)) e ∙ strings-split front p back r in
      let t = mapped-there (λ (l : ScopeElementKept). l.text) ls i p.element.text
      (ap (λ x. slice_get x i) strings ∙ ap (slice_get (fs ++ p.element.text ∷ strings_made text in_body declared (elements_in back))) (sym (count-same front 0))
      ∙ get-behind fs p.element.text (strings_made text in_body declared (elements_in back))) in
      record {
        element = m.0;
        there = m.1;
        made = m.2;
        string = ap (λ (l : ScopeElementKept). l.text) (some_same (sym m.1 ∙ t.1)) ∙ t.2;
        names = sym (map-map (scope_element_of text) (λ (l : ScopeElement). l.name) (take i ls))
            ∙ ap (map (λ (l : ScopeElement). l.name)) (sym (take-map (scope_element_of text) i ls) ∙ ap (take i) all ∙ take-append_seam earlier (scope_element text i p ∷ s.behind));
      }
