-- The first element that is refused, one element after another.
use Rattle.std.proofs.Common.{◌≡◌, ◌⊎◌, inl, inr, ℕ, ◌+◌, ◌<◌, ◌≤◌, suc, zero, List, [], ◌∷◌, ◌++◌, length, get_or, take, drop, nat_eq, Bool, true, false, Some, All, ◌||◌, cond, refl, sym, ap, ◌∙◌, subst, Contains, arith}
use Rattle.std.specs.List.{slice_get}
use Rattle.std.specs.Str.{bytes_eq}
use Rattle.std.proofs.lemmas.Slice.Eq.{bytes_eq-Decides}
use Rattle.std.proofs.lemmas.List.{take_more, map_push, take_all, drop_more, take-append-drop}
use Rattle.std.proofs.lemmas.List.Elements.{Contains-push_cases, All-push}
use Rattle.std.proofs.lemmas.Bool.{cases_order}
use Rattle.std.proofs.lemmas.Bool.Decides.{nat_tests}
use Rattle.click_text.specs.declared.strings.Mode.TheVariants as mode
use Rattle.click_text.specs.Strings.{closes}
use Rattle.click_text.proofs.OfPieces.StringEnds.{closes_once}
use Rattle.click_base.specs.NameLists.{has_name}
use Rattle.click_expand.specs.Flat.{AreDistinct, is_whole}
use Rattle.click_expand.specs.kept.FinalChecks.{flat_names_in, IsRepeated}
use Rattle.click_expand.specs.declared.flat.FlatElement.{FlatElement}

contains-here : {X : Type 0} (x : X) (xs : List X) → Contains (x ∷ xs) x
contains-here x xs = (0, omega arith, refl)

contains-behind : {X : Type 0} (y : X) (xs : List X) (x : X) → Contains xs x → Contains (y ∷ xs) x
contains-behind y xs x (k, l, e) = (suc k, omega (arith, l), e)

named_by : (n m : List ℕ) (ns : List (List ℕ)) (b : Bool) → bytes_eq n m ≡ b → (has_name n ns ≡ true → Contains ns n) → (b || has_name n ns) ≡ true → Contains (m ∷ ns) n
named_by n m ns true e k t = let s : n ≡ m = (bytes_eq-Decides n m).0 e in subst (λ x. Contains (x ∷ ns) n) s (contains-here n ns)
named_by n m ns false e k t = contains-behind m ns n (k t)

unnamed_by : (n m : List ℕ) (ns : List (List ℕ)) (b : Bool) → bytes_eq n m ≡ b → (has_name n ns ≡ false → Contains ns n → ⊥) → (b || has_name n ns) ≡ false → Contains (m ∷ ns) n → ⊥
unnamed_by n m ns true e k t d = absurd (cc t)
unnamed_by n m ns false e k t (zero, l, s) = let q : bytes_eq n m ≡ true = (bytes_eq-Decides n m).1 (sym s) in absurd (cc (sym e ∙ q))
unnamed_by n m ns false e k t (suc i, l, s) = k t (i, omega (arith, l), s)

-- a known name is one of the names
pub named : (n : List ℕ) (ns : List (List ℕ)) → has_name n ns ≡ true → Contains ns n
named n [] h = absurd (cc h)
named n (m ∷ ns) h = named_by n m ns (bytes_eq n m) refl (named n ns) h

pub unnamed : (n : List ℕ) (ns : List (List ℕ)) → has_name n ns ≡ false → Contains ns n → ⊥
unnamed n [] h (k, l, e) = omega (arith, l)
unnamed n (m ∷ ns) h c = unnamed_by n m ns (bytes_eq n m) refl (unnamed n ns) h c

pub distinct-push : (ns : List (List ℕ)) (n : List ℕ) → AreDistinct ns → (Contains ns n → ⊥) → AreDistinct (ns ++ n ∷ [])
distinct-push [] n h k = ((λ c. omega (arith, c.1)), tt)
distinct-push (m ∷ ns) n h k = (
  (λ c. elim (push_cases ns n m c) [ inl i ↦ h.0 i | inr e ↦ k (subst (λ x. Contains (x ∷ ns) n) e (contains-here n ns)) ]),
  distinct-push ns n h.1 (λ c. k (contains-behind m ns n c)),
)
  where
    push_cases : (ns : List (List ℕ)) (n m : List ℕ) → Contains (ns ++ n ∷ []) m → Contains ns m ⊎ (n ≡ m)
    push_cases ns n m c = Contains-push_cases ns n m c

-- the names of the elements, with one more
pub names-more : (es : List FlatElement) (i : ℕ) (d e : FlatElement) (ns new : List (List ℕ)) → i < length es → e ≡ get_or es i d → ns ≡ flat_names_in (take i es) →
    has_name e.name ns ≡ false → new ≡ cond (has_name e.name ns) ns (ns ++ e.name ∷ []) → AreDistinct ns → (new ≡ flat_names_in (take (i + 1) es)) × AreDistinct new
names-more es i d e ns new l is p h q k =
    let t : new ≡ ns ++ e.name ∷ [] = q ∙ ap (λ b. cond b ns (ns ++ e.name ∷ [])) h in (
      t ∙ ap (λ x. x ++ e.name ∷ []) p ∙ ap (λ (x : FlatElement). flat_names_in (take i es) ++ x.name ∷ []) is
          ∙ sym (map_push (λ (x : FlatElement). x.name) (take i es) (get_or es i d)) ∙ ap flat_names_in (sym (take_more es i d l)),
      subst AreDistinct (sym t) (distinct-push ns e.name k (unnamed e.name ns h)),
    )

pub names-all : (es : List FlatElement) (i : ℕ) (ns : List (List ℕ)) → length es ≤ i → ns ≡ flat_names_in (take i es) → AreDistinct ns → AreDistinct (flat_names_in es)
names-all es i ns l p k = subst AreDistinct (p ∙ ap flat_names_in (take_all i es l)) k

pub repeated : (es : List FlatElement) (i : ℕ) (e : FlatElement) (ns : List (List ℕ)) → slice_get es i ≡ Some e → ns ≡ flat_names_in (take i es) → AreDistinct ns → has_name e.name ns ≡ true → IsRepeated es i
repeated es i e ns t p k h = record {
  element = e;
  there = t;
  front = subst AreDistinct p k;
  taken = subst (λ x. Contains x e.name) p (named e.name ns h);
}

pub whole-more : (es : List FlatElement) (i : ℕ) (d e : FlatElement) → i < length es → e ≡ get_or es i d → is_whole e.text ≡ true →
    All (λ (x : FlatElement). is_whole x.text ≡ true) (take i es) → All (λ (x : FlatElement). is_whole x.text ≡ true) (take (i + 1) es)
whole-more es i d e l is h k =
    subst (All (λ (x : FlatElement). is_whole x.text ≡ true)) (sym (take_more es i d l))
    (All-push (λ (x : FlatElement). is_whole x.text ≡ true) (take i es) (get_or es i d) k (subst (λ (x : FlatElement). is_whole x.text ≡ true) is h))

-- if a prefix closes the string, the text closes it only if it is that prefix
pub whole-found : (xs : List ℕ) (n : ℕ) → n ≤ length xs → closes mode.Plain 1 (take n xs) ≡ true → nat_eq n (length xs) ≡ closes mode.Plain 1 xs
whole-found xs n l h =
    elim (cases_order n (length xs)) [
      | inl e ↦ (let t : nat_eq n (length xs) ≡ true = grind (arith, nat_tests) in
          t ∙ sym h ∙ ap (closes mode.Plain 1) (take_all n xs (omega (arith, e))))
      | inr (inl m) ↦ (let t : nat_eq n (length xs) ≡ false = grind (arith, nat_tests) in
          t ∙ sym (closes_once mode.Plain 1 (take n xs) (get_or xs n 0) (drop (n + 1) xs) h)
          ∙ ap (closes mode.Plain 1) (ap (λ y. take n xs ++ y) (sym (drop_more xs n 0 m)) ∙ take-append-drop n xs))
      | inr (inr m) ↦ absurd (omega (arith, l, m))
    ]

pub whole-none : (xs : List ℕ) → ((n : ℕ) → n ≤ length xs → closes mode.Plain 1 (take n xs) ≡ false) → false ≡ closes mode.Plain 1 xs
whole-none xs h = sym (h (length xs) (omega arith)) ∙ ap (closes mode.Plain 1) (take_all (length xs) xs (omega arith))
