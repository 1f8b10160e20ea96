-- The names under which elements are declared, and the first element of each name.
use Rattle.std.proofs.Common.{◌≡◌, ℕ, suc, zero, ◌+◌, ◌<◌, ◌≤◌, List, [], ◌∷◌, ◌++◌, length, get_or, take, Bool, true, false, cond, Option, Some, None, refl, sym, ap, ◌∙◌, subst, arith, position}
use Rattle.std.specs.List.{slice_get, position_from, list_any}
use Rattle.std.specs.Str.{bytes_eq}
use Rattle.std.proofs.lemmas.List.{take_more, take_all, map_push, length_push}
use Rattle.std.proofs.lemmas.Iterator.Adapters.{position_from-zero}
use Rattle.std.proofs.lemmas.Slice.Eq.{bytes_eq-Decides}
use Rattle.click_text.specs.declared.syntax.Element.{Element}
use Rattle.click_scopes.specs.declared.written_scopes.WrittenElement.{WrittenElement}
use Rattle.click_scopes.specs.Elements.{head_name}
use Rattle.click_base.specs.NameLists.{has_name}
use Rattle.click_scopes.specs.Faults.{is_declared_as}
use Rattle.click_scopes.specs.kept.Tables.{elements_of}
use Rattle.click_scopes.specs.kept.ConnectionEnds.{at, declares, AreDeclared}
use Rattle.click_scopes.proofs.OfLists.StatementTables.{slice_get-more, slice_get-last}

module _ {X : Type 0} (p : X → Bool) where
  -- the first index, or else the other one
  abbrev pub or_else : Option ℕ → Option ℕ → Option ℕ
  or_else None o = o
  or_else (Some i) o = Some i

  from-push : (i : ℕ) (xs : List X) (x : X) → position_from p i (xs ++ x ∷ []) ≡ or_else (position_from p i xs) (cond (p x) (Some (i + length xs)) None)
  from-push i [] x = ap (λ n. cond (p x) (Some n) None) (omega arith)
  from-push i (y ∷ xs) x =
      let rest = from-push (i + 1) xs x ∙ ap (λ n. or_else (position_from p (i + 1) xs) (cond (p x) (Some n) None)) (let e : (i + 1) + length xs ≡ i + suc (length xs) = omega arith in e) in
      elim (p y) as (λ b. cond b (Some i) (position_from p (i + 1) (xs ++ x ∷ [])) ≡ or_else (cond b (Some i) (position_from p (i + 1) xs)) (cond (p x) (Some (i + length (y ∷ xs))) None)) [
        | true ↦ refl
        | false ↦ rest
      ]

  pub position-from : (xs : List X) → position p xs ≡ position_from p 0 xs
  position-from xs = position_from-zero p xs

  pub position-push : (xs : List X) (x : X) → position p (xs ++ x ∷ []) ≡ or_else (position p xs) (cond (p x) (Some (length xs)) None)
  position-push xs x =
      position-from (xs ++ x ∷ []) ∙ from-push 0 xs x
      ∙ ap (λ n. or_else (position_from p 0 xs) (cond (p x) (Some n) None)) (let e : 0 + length xs ≡ length xs = omega arith in e)
      ∙ ap (λ o. or_else o (cond (p x) (Some (length xs)) None)) (sym (position-from xs))

  from-any : (i : ℕ) (xs : List X) → position_from p i xs ≡ None → list_any p xs ≡ false
  from-any i [] h = refl
  from-any i (x ∷ xs) h = by_test (from-any (i + 1) xs) (p x) refl h
    where
      by_test : (position_from p (i + 1) xs ≡ None → list_any p xs ≡ false) → (b : Bool) → p x ≡ b → cond b (Some i) (position_from p (i + 1) xs) ≡ None → list_any p (x ∷ xs) ≡ false
      by_test f true e k = absurd (cc k)
      by_test f false e k = rw e (f k)

  pub position-any : (xs : List X) → position p xs ≡ None → list_any p xs ≡ false
  position-any xs h = from-any 0 xs (sym (position-from xs) ∙ h)

  from-within : (i : ℕ) (xs : List X) (k : ℕ) → position_from p i xs ≡ Some k → (i ≤ k) × (k < i + length xs)
  from-within i [] k h = absurd (cc h)
  from-within i (x ∷ xs) k h = by_test (from-within (i + 1) xs k) (p x) h
    where
      by_test : (position_from p (i + 1) xs ≡ Some k → (i + 1 ≤ k) × (k < i + 1 + length xs)) → (b : Bool) → cond b (Some i) (position_from p (i + 1) xs) ≡ Some k → (i ≤ k) × (k < i + length (x ∷ xs))
      by_test f true e = let q : i ≡ k = cc e in (omega (arith, q), omega (arith, q))
      by_test f false e = let r = f e in (omega (arith, r.0), omega (arith, r.1))

  pub position-within : (xs : List X) (k : ℕ) → position p xs ≡ Some k → k < length xs
  position-within xs k h = let r = from-within 0 xs k (sym (position-from xs) ∙ h) in omega (arith, r.1)

bytes-comm : (a b : List ℕ) → bytes_eq a b ≡ bytes_eq b a
bytes-comm a b = by_tests (bytes_eq a b) refl (bytes_eq b a) refl
  where
    by_tests : (x : Bool) → bytes_eq a b ≡ x → (y : Bool) → bytes_eq b a ≡ y → x ≡ y
    by_tests true e true f = refl
    by_tests true e false f = absurd (let s : bytes_eq b a ≡ true = (bytes_eq-Decides b a).1 (sym ((bytes_eq-Decides a b).0 e)) in cc (s, f))
    by_tests false e true f = absurd (let s : bytes_eq a b ≡ true = (bytes_eq-Decides a b).1 (sym ((bytes_eq-Decides b a).0 f)) in cc (s, e))
    by_tests false e false f = refl

at-more : (xs : List ℕ) (x : ℕ) (k : ℕ) → k < length xs → at (xs ++ x ∷ []) (Some k) ≡ at xs (Some k)
at-more xs x k l = by_part (slice_get xs k) refl
  where
    by_part : (o : Option ℕ) → slice_get xs k ≡ o → slice_get (xs ++ x ∷ []) k ≡ slice_get xs k
    by_part None e = absurd (none-past xs k l e)
      where
        none-past : (ys : List ℕ) (j : ℕ) → j < length ys → slice_get ys j ≡ None → ⊥
        none-past [] j m f = omega (arith, m)
        none-past (y ∷ ys) zero m f = cc f
        none-past (y ∷ ys) (suc j) m f = none-past ys j (omega (arith, m)) f
    by_part (Some y) e = slice_get-more xs (x ∷ []) k y e ∙ sym e

pub some-within : {X : Type 0} (xs : List X) (k : ℕ) → k < length xs → slice_get xs k ≡ None → ⊥
some-within [] k l h = omega (arith, l)
some-within (x ∷ xs) zero l h = cc h
some-within (x ∷ xs) (suc k) l h = some-within xs k (omega (arith, l)) h

module _ (text : List ℕ) where
  -- the names so far, with as many indices
  pub record Declaring (es : List Element) (names : List (List ℕ)) (firsts : List ℕ) : Type 0 where
    pub declared : AreDeclared text es names firsts
    pub as_many : length firsts ≡ length names

  pub declaring-none : Declaring [] [] []
  declaring-none = record { declared = record { first = λ q. refl }; as_many = refl }

  module _ (es : List Element) (names : List (List ℕ)) (firsts : List ℕ) (h : Declaring es names firsts) (e : Element) where
    pub declaring-no : head_name text e.head ≡ None → Declaring (es ++ e ∷ []) names firsts
    declaring-no k = record {
      declared = record {
        first = λ q.
            h.declared.first q
            ∙ by_part q (position (declares text q) es)
            ∙ ap (λ b. or_else (declares text q) (position (declares text q) es) (cond b (Some (length es)) None)) (sym (ap (is_declared_as text q) k))
            ∙ sym (position-push (declares text q) es e);
      };
      as_many = h.as_many;
    }
      where
        by_part : (q : List ℕ) (o : Option ℕ) → o ≡ or_else (declares text q) o None
        by_part q None = refl
        by_part q (Some i) = refl

    module _ (n : List ℕ) (is : head_name text e.head ≡ Some n) where
      declares-name : (q : List ℕ) → declares text q e ≡ bytes_eq q n
      declares-name q = ap (is_declared_as text q) is ∙ bytes-comm n q

      declaring-old : has_name n names ≡ true → (q : List ℕ) → at firsts (position (bytes_eq q) names) ≡ position (declares text q) (es ++ e ∷ [])
      declaring-old k q = h.declared.first q ∙ by_part (position (declares text q) es) refl ∙ sym (position-push (declares text q) es e)
        where
          test : position (declares text q) es ≡ None → (b : Bool) → bytes_eq q n ≡ b → b ≡ false
          test o true f =
              let s : q ≡ n = (bytes_eq-Decides q n).0 f in
              let some : has_name q names ≡ true = ap (λ m. has_name m names) s ∙ k in
              absurd (by_place (position (bytes_eq q) names) refl some)
            where
              by_place : (p : Option ℕ) → position (bytes_eq q) names ≡ p → has_name q names ≡ true → ⊥
              by_place None g t = let a : has_name q names ≡ false = position-any (bytes_eq q) names g in cc (a, t)
              by_place (Some j) g t =
                  some-within firsts j (let l = position-within (bytes_eq q) names j g in omega (arith, l, h.as_many))
                  (sym (ap (at firsts) g) ∙ h.declared.first q ∙ o)
          test o false f = refl

          by_part : (o : Option ℕ) → position (declares text q) es ≡ o → o ≡ or_else (declares text q) o (cond (declares text q e) (Some (length es)) None)
          by_part None o = ap (λ b. cond b (Some (length es)) None) (sym (declares-name q ∙ test o (bytes_eq q n) refl))
          by_part (Some i) o = refl

      declaring-new : has_name n names ≡ false → (q : List ℕ) →
          at (firsts ++ length es ∷ []) (position (bytes_eq q) (names ++ n ∷ [])) ≡ position (declares text q) (es ++ e ∷ [])
      declaring-new k q =
          ap (at (firsts ++ length es ∷ [])) (position-push (bytes_eq q) names n) ∙ by_place (position (bytes_eq q) names) refl
          ∙ ap (λ o. or_else (declares text q) o (cond (declares text q e) (Some (length es)) None)) (h.declared.first q)
          ∙ sym (position-push (declares text q) es e)
        where
          by_first : (o : Option ℕ) → o ≡ at firsts (Some 0) → o ≡ o
          by_first o x = refl

          kept : (o : Option ℕ) (j : ℕ) → slice_get firsts j ≡ o → j < length firsts → o ≡ or_else (declares text q) o (cond (declares text q e) (Some (length es)) None)
          kept None j g l = absurd (some-within firsts j l g)
          kept (Some i) j g l = refl

          last : (b : Bool) → at (firsts ++ length es ∷ []) (cond b (Some (length names)) None) ≡ cond b (Some (length es)) None
          last true = ap (slice_get (firsts ++ length es ∷ [])) (sym h.as_many) ∙ slice_get-last firsts (length es)
          last false = refl

          by_place : (p : Option ℕ) → position (bytes_eq q) names ≡ p →
              at (firsts ++ length es ∷ []) (or_else (bytes_eq q) p (cond (bytes_eq q n) (Some (length names)) None))
              ≡ or_else (declares text q) (at firsts p) (cond (declares text q e) (Some (length es)) None)
          by_place None g = last (bytes_eq q n) ∙ ap (λ b. cond b (Some (length es)) None) (sym (declares-name q))
          by_place (Some j) g =
              let l : j < length firsts = (let m = position-within (bytes_eq q) names j g in omega (arith, m, h.as_many)) in
              at-more firsts (length es) j l ∙ kept (slice_get firsts j) j refl l

      pub declaring-yes : (i : ℕ) (more : List (List ℕ)) (places : List ℕ) → i ≡ length es → more ≡ cond (has_name n names) names (names ++ n ∷ []) →
          places ≡ cond (has_name n names) firsts (firsts ++ i ∷ []) → Declaring (es ++ e ∷ []) more places
      declaring-yes i more places at_end p q =
          subst (λ ns. Declaring (es ++ e ∷ []) ns places) (sym p)
          (subst (Declaring (es ++ e ∷ []) (cond (has_name n names) names (names ++ n ∷ []))) (sym (q ∙ ap (λ j. cond (has_name n names) firsts (firsts ++ j ∷ [])) at_end))
          (by_test (has_name n names) refl))
        where
          by_test : (b : Bool) → has_name n names ≡ b → Declaring (es ++ e ∷ []) (cond b names (names ++ n ∷ [])) (cond b firsts (firsts ++ length es ∷ []))
          by_test true k = record { declared = record { first = declaring-old k }; as_many = h.as_many }
          by_test false k = record { declared = record { first = declaring-new k }; as_many = length_push firsts (length es) ∙ ap (λ x. x + 1) h.as_many ∙ sym (length_push names n) }

-- the first i written elements
abbrev pub elements_by : List WrittenElement → ℕ → List Element
elements_by ws i = elements_of (take i ws)

pub elements-more : (ws : List WrittenElement) (i : ℕ) (d w : WrittenElement) → i < length ws → w ≡ get_or ws i d → elements_by ws (i + 1) ≡ elements_by ws i ++ w.element ∷ []
elements-more ws i d w l is =
    ap elements_of (take_more ws i d l) ∙ map_push (λ (x : WrittenElement). x.element) (take i ws) (get_or ws i d)
    ∙ ap (λ (x : WrittenElement). elements_by ws i ++ x.element ∷ []) (sym is)

pub elements-length : (ws : List WrittenElement) (i : ℕ) → i < length ws → length (elements_by ws i) ≡ i
elements-length ws i l = count ws i (omega (arith, l))
  where
    count : (xs : List WrittenElement) (j : ℕ) → j ≤ length xs → length (elements_of (take j xs)) ≡ j
    count xs zero m = nothing xs
      where
        nothing : (ys : List WrittenElement) → length (elements_of (take zero ys)) ≡ zero
        nothing [] = refl
        nothing (y ∷ ys) = refl
    count [] (suc j) m = absurd (omega (arith, m))
    count (x ∷ xs) (suc j) m = ap suc (count xs j (omega (arith, m)))

pub elements-all : (ws : List WrittenElement) (i : ℕ) → length ws ≤ i → elements_by ws i ≡ elements_of ws
elements-all ws i l = ap elements_of (take_all i ws l)

module _ (text : List ℕ) where
  pub declaring-as : (es : List Element) (names more : List (List ℕ)) (firsts places : List ℕ) → names ≡ more → firsts ≡ places → Declaring text es names firsts → Declaring text es more places
  declaring-as es names more firsts places p q h = subst (λ n. Declaring text es n places) p (subst (Declaring text es names) q h)

  module _ (ws : List WrittenElement) (i : ℕ) (d w : WrittenElement) (names : List (List ℕ)) (firsts : List ℕ) where
    pub declaring-next : (more : List (List ℕ)) (places : List ℕ) (n : List ℕ) → i < length ws → w ≡ get_or ws i d → head_name text w.element.head ≡ Some n →
        more ≡ cond (has_name n names) names (names ++ n ∷ []) → places ≡ cond (has_name n names) firsts (firsts ++ i ∷ []) →
        Declaring text (elements_by ws i) names firsts → Declaring text (elements_by ws (i + 1)) more places
    declaring-next more places n l is k p q h =
        subst (λ es. Declaring text es more places) (sym (elements-more ws i d w l is))
        (declaring-yes text (elements_by ws i) names firsts h w.element n k i more places (sym (elements-length ws i l)) p q)

    pub declaring-other : i < length ws → w ≡ get_or ws i d → head_name text w.element.head ≡ None →
        Declaring text (elements_by ws i) names firsts → Declaring text (elements_by ws (i + 1)) names firsts
    declaring-other l is k h =
        subst (λ es. Declaring text es names firsts) (sym (elements-more ws i d w l is)) (declaring-no text (elements_by ws i) names firsts h w.element k)

  pub declaring-all : (ws : List WrittenElement) (i : ℕ) (names : List (List ℕ)) (firsts : List ℕ) → length ws ≤ i → Declaring text (elements_by ws i) names firsts → AreDeclared text (elements_of ws) names firsts
  declaring-all ws i names firsts l h = subst (λ es. AreDeclared text es names firsts) (elements-all ws i l) h.declared
