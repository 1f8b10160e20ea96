-- The elements of a scope and the names that it declares, one after another.
use Rattle.std.proofs.Common.{◌≡◌, ℕ, suc, zero, ◌+◌, ◌<◌, ◌≤◌, List, [], ◌∷◌, ◌++◌, map, length, get_or, take, drop, Bool, true, false, ◌||◌, cond, Option, Some, None, refl, sym, ap, ◌∙◌, append_assoc, subst, arith}
use Rattle.std.specs.List.{list_any, cons_option}
use Rattle.std.specs.Str.{bytes_eq}
use Rattle.std.proofs.lemmas.List.{append-nil, at_drop_all, at_drop_more, take_more, take_all, map_push, length_push}
use Rattle.std.proofs.lemmas.List.Elements.{filter_map-append}
use Rattle.std.proofs.lemmas.Slice.Eq.{bytes_eq-Decides}
use Rattle.click_text.specs.declared.syntax.Span.{Span}
use Rattle.click_text.specs.declared.syntax.Element.{Element}
use Rattle.click_text.specs.declared.syntax.Head.{Head}
use Rattle.click_text.specs.declared.syntax.Head.TheVariants as head
use Rattle.click_scopes.specs.declared.classes.ClassEntry.{ClassEntry}
use Rattle.click_scopes.specs.declared.written_scopes.WrittenElement.{WrittenElement}
use Rattle.click_scopes.specs.declared.scope_elements.ScopeElement.{ScopeElement as ScopeElementKept}
use Rattle.click_scopes.specs.declared.scope_elements.Role.{Role as RoleKept}
use Rattle.click_scopes.specs.declared.scope_elements.Role.TheVariants as kept
use Rattle.click_scopes.specs.Elements.{Placed, Role, pseudo, refers, makes, role, count_with, head_name, ScopeElement, scope_element, scope_elements_from}
use Rattle.click_base.specs.NameLists.{has_name}
use Rattle.click_scopes.specs.kept.Tables.{IsWrittenElement, AreWritten, elements_of, names_declared, numbers_from, scope_element_of, role_kept}
use Rattle.click_scopes.specs.kept.ScopeElements.{string_where_made, string_made, strings_made, strings_of}

pub any_push : {X : Type 0} (p : X → Bool) (xs : List X) (x : X) → list_any p (xs ++ x ∷ []) ≡ (list_any p xs || p x)
any_push p [] x = elim (p x) as (λ b. (b || false) ≡ b) [ true ↦ refl | false ↦ refl ]
any_push p (y ∷ xs) x = elim (p y) as (λ b. (b || list_any p (xs ++ x ∷ [])) ≡ (b || list_any p xs || p x)) [ true ↦ refl | false ↦ any_push p xs x ]

-- two lists that have the same names still do after one more, which the first list gets only if it
-- is new
pub has_name-added : (ks ds : List (List ℕ)) (n : List ℕ) → ((q : List ℕ) → has_name q ks ≡ has_name q ds) →
    (q : List ℕ) → has_name q (cond (has_name n ks) ks (ks ++ n ∷ [])) ≡ has_name q (ds ++ n ∷ [])
has_name-added ks ds n h q = by_test (has_name n ks) refl
  where
    here : has_name n ks ≡ true → (b : Bool) → bytes_eq q n ≡ b → has_name q ks ≡ (has_name q ks || b)
    here k true e =
        let s : q ≡ n = (bytes_eq-Decides q n).0 e in
        let t : has_name q ks ≡ true = ap (λ m. has_name m ks) s ∙ k in
        rw t refl
    here k false e = elim (has_name q ks) as (λ b. b ≡ (b || false)) [ true ↦ refl | false ↦ refl ]

    by_test : (b : Bool) → has_name n ks ≡ b → has_name q (cond b ks (ks ++ n ∷ [])) ≡ has_name q (ds ++ n ∷ [])
    by_test true k =
        here k (bytes_eq q n) refl ∙ ap (λ b. b || bytes_eq q n) (h q) ∙ sym (any_push (bytes_eq q) ds n)
    by_test false k =
        any_push (bytes_eq q) ks n ∙ ap (λ b. b || bytes_eq q n) (h q) ∙ sym (any_push (bytes_eq q) ds n)

pub kept-makes : (k : RoleKept) → role_kept k ≡ makes → k ≡ kept.Makes
kept-makes kept.Pseudo h = absurd (cc h)
kept-makes kept.Refers h = absurd (cc h)
kept-makes kept.Makes h = refl

-- an element that is not declared with a name has none
pub undeclared : (text : List ℕ) (h : Head) → ((s : _) (c : _) → h ≡ head.Declared s c → ⊥) → head_name text h ≡ None
undeclared text (head.Word s) k = refl
undeclared text (head.Declared s c) k = absurd (k s c refl)
undeclared text (head.Compound b) k = refl

pub counts-other : (n : ℕ) (r : Role) → (r ≡ makes → ⊥) → count_with r n ≡ n
counts-other n pseudo h = refl
counts-other n refers h = refl
counts-other n makes h = absurd (h refl)

module _ (text : List ℕ) where
  -- the names that the first i of these elements declare
  abbrev pub declared_by : List WrittenElement → ℕ → List (List ℕ)
  declared_by ws i = names_declared text (elements_of (take i ws))

  declared_by-more : (ws : List WrittenElement) (i : ℕ) (d w : WrittenElement) → i < length ws → w ≡ get_or ws i d →
      declared_by ws (i + 1) ≡ declared_by ws i ++ cons_option (head_name text w.element.head) []
  declared_by-more ws i d w l is =
      ap (λ xs. names_declared text (elements_of xs)) (take_more ws i d l)
      ∙ ap (names_declared text) (map_push (λ (x : WrittenElement). x.element) (take i ws) (get_or ws i d))
      ∙ filter_map-append (λ (e : Element). head_name text e.head) (elements_of (take i ws)) ((get_or ws i d).element ∷ [])
      ∙ ap (λ (x : WrittenElement). declared_by ws i ++ cons_option (head_name text x.element.head) []) (sym is)

  pub declared_by-yes : (ws : List WrittenElement) (i : ℕ) (d w : WrittenElement) (n : List ℕ) → i < length ws → w ≡ get_or ws i d → head_name text w.element.head ≡ Some n →
      declared_by ws (i + 1) ≡ declared_by ws i ++ n ∷ []
  declared_by-yes ws i d w n l is h = declared_by-more ws i d w l is ∙ ap (λ o. declared_by ws i ++ cons_option o []) h

  pub declared_by-no : (ws : List WrittenElement) (i : ℕ) (d w : WrittenElement) → i < length ws → w ≡ get_or ws i d → head_name text w.element.head ≡ None →
      declared_by ws (i + 1) ≡ declared_by ws i
  declared_by-no ws i d w l is h = declared_by-more ws i d w l is ∙ ap (λ o. declared_by ws i ++ cons_option o []) h ∙ append-nil (declared_by ws i)

  pub declared_by-all : (ws : List WrittenElement) (i : ℕ) → length ws ≤ i → declared_by ws i ≡ names_declared text (elements_of ws)
  declared_by-all ws i l = ap (λ xs. names_declared text (elements_of xs)) (take_all i ws l)

  -- the next stored element, and the written element that it is
  pub record NextWritten (class_table : List ClassEntry) (w : WrittenElement) (ps : List Placed) (i : ℕ) : Type 0 where
    pub next : Placed
    pub here : drop i ps ≡ next ∷ drop (i + 1) ps
    pub is : IsWrittenElement text class_table w next

  pub next_written : (class_table : List ClassEntry) (ws : List WrittenElement) (ps : List Placed) (i : ℕ) (d : WrittenElement) → AreWritten text class_table ws ps → i < length ws →
      NextWritten class_table (get_or ws i d) ps i
  next_written class_table [] ps i d h l = absurd (omega (arith, l))
  next_written class_table (w ∷ ws) [] i d h l = absurd h
  next_written class_table (w ∷ ws) (p ∷ ps) zero d h l = record { next = p; here = refl; is = h.0 }
  next_written class_table (w ∷ ws) (p ∷ ps) (suc i) d h l =
      let r = next_written class_table ws ps i d h.1 (omega (arith, l)) in
      record { next = r.next; here = (let e : suc (i + 1) ≡ suc i + 1 = omega arith in r.here ∙ ap (λ n. r.next ∷ drop n (p ∷ ps)) e); is = r.is }

  pub written-length : (class_table : List ClassEntry) (ws : List WrittenElement) (ps : List Placed) → AreWritten text class_table ws ps → length ps ≡ length ws
  written-length class_table [] [] h = refl
  written-length class_table [] (p ∷ ps) h = absurd h
  written-length class_table (w ∷ ws) [] h = absurd h
  written-length class_table (w ∷ ws) (p ∷ ps) h = ap suc (written-length class_table ws ps h.1)

  module _ (in_body : Bool) (declared : List (List ℕ)) where
    pub scope_elements-made : (n : ℕ) (p : Placed) (ps : List Placed) → role text in_body declared p.element ≡ makes →
        scope_elements_from text in_body declared n (p ∷ ps) ≡ scope_element text n p ∷ scope_elements_from text in_body declared (n + 1) ps
    unfolding scope_elements_from
    scope_elements-made n p ps h = rw h refl

    pub scope_elements-other : (n : ℕ) (p : Placed) (ps : List Placed) (r : Role) → role text in_body declared p.element ≡ r → (r ≡ makes → ⊥) →
        scope_elements_from text in_body declared n (p ∷ ps) ≡ scope_elements_from text in_body declared n ps
    unfolding scope_elements_from
    scope_elements-other n p ps pseudo h k = rw h refl
    scope_elements-other n p ps refers h k = rw h refl
    scope_elements-other n p ps makes h k = absurd (k refl)

    pub scope_elements-end : (n : ℕ) → scope_elements_from text in_body declared n [] ≡ []
    unfolding scope_elements_from
    scope_elements-end n = refl

    -- the elements made so far, and those that the rest will make
    abbrev pub with_left : List ScopeElementKept → List Placed → List ScopeElement
    with_left ls ps = map (scope_element_of text) ls ++ scope_elements_from text in_body declared (length ls) ps

    pub made-none : (ps : List Placed) → scope_elements_from text in_body declared 0 ps ≡ with_left [] ps
    made-none ps = refl

    module _ (class_table : List ClassEntry) (ws : List WrittenElement) (ps : List Placed) (h : AreWritten text class_table ws ps) where
      pub made-more : (ls : List ScopeElementKept) (l : ScopeElementKept) (n i : ℕ) (d w : WrittenElement) → i < length ws → w ≡ get_or ws i d → n ≡ length ls →
          role text in_body declared w.element ≡ makes → ((p : Placed) → IsWrittenElement text class_table w p → scope_element_of text l ≡ scope_element text n p) →
          with_left ls (drop i ps) ≡ with_left (ls ++ l ∷ []) (drop (i + 1) ps)
      made-more ls l n i d w lt is nl m g =
          let r = next_written class_table ws ps i d h lt in
          let t : IsWrittenElement text class_table w r.next = subst (λ x. IsWrittenElement text class_table x r.next) (sym is) r.is in
          let k : role text in_body declared r.next.element ≡ makes = ap (role text in_body declared) (sym t.element) ∙ m in
          let rest = scope_elements_from text in_body declared (length ls + 1) (drop (i + 1) ps) in
          ap (with_left ls) r.here
          ∙ ap (λ xs. map (scope_element_of text) ls ++ xs) (scope_elements-made (length ls) r.next (drop (i + 1) ps) k)
          ∙ ap (λ x. map (scope_element_of text) ls ++ x ∷ rest) (ap (λ x. scope_element text x r.next) (sym nl) ∙ sym (g r.next t))
          ∙ sym (append_assoc (map (scope_element_of text) ls) (scope_element_of text l ∷ []) rest)
          ∙ ap (λ xs. xs ++ rest) (sym (map_push (scope_element_of text) ls l))
          ∙ ap (λ x. map (scope_element_of text) (ls ++ l ∷ []) ++ scope_elements_from text in_body declared x (drop (i + 1) ps)) (sym (length_push ls l))

      pub made-other : (ls : List ScopeElementKept) (i : ℕ) (d w : WrittenElement) (r : Role) → i < length ws → w ≡ get_or ws i d →
          role text in_body declared w.element ≡ r → (r ≡ makes → ⊥) → with_left ls (drop i ps) ≡ with_left ls (drop (i + 1) ps)
      made-other ls i d w o lt is m k =
          let r = next_written class_table ws ps i d h lt in
          let t : IsWrittenElement text class_table w r.next = subst (λ x. IsWrittenElement text class_table x r.next) (sym is) r.is in
          ap (with_left ls) r.here
          ∙ ap (λ xs. map (scope_element_of text) ls ++ xs)
          (scope_elements-other (length ls) r.next (drop (i + 1) ps) o (ap (role text in_body declared) (sym t.element) ∙ m) k)

      pub made-all : (ls : List ScopeElementKept) (i : ℕ) → length ws ≤ i → with_left ls (drop i ps) ≡ map (scope_element_of text) ls
      made-all ls i l =
          at_drop_all (with_left ls) ps i (omega (arith, written-length class_table ws ps h))
          ∙ ap (λ xs. map (scope_element_of text) ls ++ xs) (scope_elements-end (length ls)) ∙ append-nil (map (scope_element_of text) ls)

    -- the configuration strings of the elements made so far, and of those that the rest will make
    abbrev pub strings_left : List ScopeElementKept → List WrittenElement → List (Option Span)
    strings_left ls ws = strings_of ls ++ strings_made text in_body declared (elements_of ws)

    strings-next : (ls : List ScopeElementKept) (ws : List WrittenElement) (i : ℕ) (d w : WrittenElement) (r : Role) → i < length ws → w ≡ get_or ws i d → role text in_body declared w.element ≡ r →
        strings_left ls (drop i ws) ≡ strings_of ls ++ cons_option (string_where_made r w.element.text) (strings_made text in_body declared (elements_of (drop (i + 1) ws)))
    strings-next ls ws i d w r l is m =
        let rest = strings_made text in_body declared (elements_of (drop (i + 1) ws)) in
        at_drop_more (strings_left ls) ws i d l
        ∙ ap (λ (x : WrittenElement). strings_of ls ++ cons_option (string_made text in_body declared x.element) rest) (sym is)
        ∙ ap (λ x. strings_of ls ++ cons_option (string_where_made x w.element.text) rest) m

    pub strings-makes : (ls : List ScopeElementKept) (l : ScopeElementKept) (ws : List WrittenElement) (i : ℕ) (d w : WrittenElement) → i < length ws → w ≡ get_or ws i d →
        role text in_body declared w.element ≡ makes → l.text ≡ w.element.text → strings_left ls (drop i ws) ≡ strings_left (ls ++ l ∷ []) (drop (i + 1) ws)
    strings-makes ls l ws i d w lt is m t =
        let rest = strings_made text in_body declared (elements_of (drop (i + 1) ws)) in
        strings-next ls ws i d w makes lt is m
        ∙ ap (λ x. strings_of ls ++ x ∷ rest) (sym t)
        ∙ sym (append_assoc (strings_of ls) (l.text ∷ []) rest)
        ∙ ap (λ xs. xs ++ rest) (sym (map_push (λ (x : ScopeElementKept). x.text) ls l))

    string-none : (r : Role) (t : Option Span) → (r ≡ makes → ⊥) → string_where_made r t ≡ None
    string-none pseudo t h = refl
    string-none refers t h = refl
    string-none makes t h = absurd (h refl)

    pub strings-other : (ls : List ScopeElementKept) (ws : List WrittenElement) (i : ℕ) (d w : WrittenElement) (r : Role) → i < length ws → w ≡ get_or ws i d →
        role text in_body declared w.element ≡ r → (r ≡ makes → ⊥) → strings_left ls (drop i ws) ≡ strings_left ls (drop (i + 1) ws)
    strings-other ls ws i d w r lt is m k =
        strings-next ls ws i d w r lt is m
        ∙ ap (λ o. strings_of ls ++ cons_option o (strings_made text in_body declared (elements_of (drop (i + 1) ws)))) (string-none r w.element.text k)

    pub strings-all : (ls : List ScopeElementKept) (ws : List WrittenElement) (i : ℕ) → length ws ≤ i → strings_left ls (drop i ws) ≡ strings_of ls
    strings-all ls ws i l = at_drop_all (strings_left ls) ws i l ∙ append-nil (strings_of ls)

    -- the numbers so far, and those of the rest
    abbrev pub numbers_left : List ℕ → ℕ → List WrittenElement → List ℕ
    numbers_left ns n ws = ns ++ numbers_from text in_body declared n (elements_of ws)

    numbers-next : (n : ℕ) (e : Element) (es : List Element) →
        numbers_from text in_body declared n (e ∷ es) ≡ n ∷ numbers_from text in_body declared (count_with (role text in_body declared e) n) es
    unfolding numbers_from
    numbers-next n e es = refl

    numbers-end : (n : ℕ) → numbers_from text in_body declared n [] ≡ []
    unfolding numbers_from
    numbers-end n = refl

    pub numbers-more : (ns : List ℕ) (n m : ℕ) (ws : List WrittenElement) (i : ℕ) (d w : WrittenElement) → i < length ws → w ≡ get_or ws i d →
        m ≡ count_with (role text in_body declared w.element) n → numbers_left ns n (drop i ws) ≡ numbers_left (ns ++ n ∷ []) m (drop (i + 1) ws)
    numbers-more ns n m ws i d w l is k =
        at_drop_more (numbers_left ns n) ws i d l
        ∙ ap (λ xs. ns ++ xs) (numbers-next n (get_or ws i d).element (elements_of (drop (i + 1) ws)))
        ∙ ap (λ (x : WrittenElement). ns ++ n ∷ numbers_from text in_body declared (count_with (role text in_body declared x.element) n) (elements_of (drop (i + 1) ws))) (sym is)
        ∙ ap (λ x. ns ++ n ∷ numbers_from text in_body declared x (elements_of (drop (i + 1) ws))) (sym k)
        ∙ sym (append_assoc ns (n ∷ []) (numbers_from text in_body declared m (elements_of (drop (i + 1) ws))))

    pub numbers-all : (ns : List ℕ) (n : ℕ) (ws : List WrittenElement) (i : ℕ) → length ws ≤ i → numbers_left ns n (drop i ws) ≡ ns
    numbers-all ns n ws i l = at_drop_all (numbers_left ns n) ws i l ∙ ap (λ xs. ns ++ xs) (numbers-end n) ∙ append-nil ns
