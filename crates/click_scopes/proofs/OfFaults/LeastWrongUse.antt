-- The first of several misuses.
use Rattle.std.proofs.Common.{◌≡◌, ◌⊎◌, inl, inr, ℕ, ◌+◌, ◌<◌, ◌≤◌, List, [], ◌∷◌, ◌++◌, take, length, get_or, subst, Bool, true, false, cond, nat_eq, nat_lt, Option, Some, None, refl, sym, ap, ◌∙◌, arith}
use Rattle.std.proofs.lemmas.Bool.Decides.{nat_tests}
use Rattle.click_scopes.specs.Faults.{fault_number}
use Rattle.std.specs.List.{slice_get}
use Rattle.std.proofs.lemmas.Bool.{cases_order}
use Rattle.std.proofs.lemmas.Option.{slice_get-get_or}
use Rattle.std.proofs.lemmas.List.{take_more, map_push}
use Rattle.click_text.specs.declared.syntax.Body.{Body}
use Rattle.click_base.specs.NameLists.{has_name}
use Rattle.click_scopes.specs.declared.scope_elements.ScopeElement.{ScopeElement as ScopeElementKept}
use Rattle.click_scopes.proofs.OfElements.StatementElements.{has_name-added}
use Rattle.click_scopes.specs.kept.FirstFault.{comes_before, first_of, AtMost, IsLeast, IsWrongScopeElement, IsWrongFormal, scope_element_at, local_names, formals_in, token_fault_if}
use Rattle.click_text.specs.declared.syntax.Span.{Span}
use Rattle.click_text.specs.Spans.{bytes_at}
use Rattle.click_scopes.specs.declared.fault.WrongUse.TheVariants as kind
use Rattle.click_scopes.specs.declared.first_fault.TokenFault.{TokenFault}

some_same : {X : Type 0} {x y : X} → Some x ≡ Some y → x ≡ y
some_same h = cc h

before-numbers : (a b m n : ℕ) → cond (nat_eq a b) (nat_lt m n) (nat_lt a b) ≡ true → (a < b) ⊎ ((a ≡ b) × (m < n))
before-numbers a b m n h = by_test (nat_eq a b) refl h
  where
    by_test : (t : Bool) → nat_eq a b ≡ t → cond t (nat_lt m n) (nat_lt a b) ≡ true → (a < b) ⊎ ((a ≡ b) × (m < n))
    by_test true e k = inr (grind (arith, nat_tests), grind (arith, nat_tests))
    by_test false e k = inl (grind (arith, nat_tests))

after-numbers : (a b m n : ℕ) → cond (nat_eq a b) (nat_lt m n) (nat_lt a b) ≡ false → (b < a) ⊎ ((b ≡ a) × (n ≤ m))
after-numbers a b m n h = by_test (nat_eq a b) refl h
  where
    by_test : (t : Bool) → nat_eq a b ≡ t → cond t (nat_lt m n) (nat_lt a b) ≡ false → (b < a) ⊎ ((b ≡ a) × (n ≤ m))
    by_test true e k = inr (grind (arith, nat_tests), grind (arith, nat_tests))
    by_test false e k = inl (grind (arith, nat_tests))

pub at_most-through : (x y z : TokenFault) → AtMost x y → AtMost y z → AtMost x z
at_most-through x y z (inl p) (inl q) = inl (omega (arith, p, q))
at_most-through x y z (inl p) (inr q) = inl (omega (arith, p, q.0))
at_most-through x y z (inr p) (inl q) = inl (omega (arith, p.0, q))
at_most-through x y z (inr p) (inr q) = inr (omega (arith, p.0, q.0), omega (arith, p.1, q.1))

before-at_most : (x y : TokenFault) → comes_before x y ≡ true → AtMost x y
before-at_most x y h = elim (before-numbers x.span.start y.span.start (fault_number x.kind) (fault_number y.kind) h) [ inl l ↦ inl l | inr e ↦ inr (e.0, omega (arith, e.1)) ]

not_before-at_most : (x y : TokenFault) → comes_before y x ≡ false → AtMost x y
not_before-at_most x y h = elim (after-numbers y.span.start x.span.start (fault_number y.kind) (fault_number x.kind) h) [ inl l ↦ inl l | inr e ↦ inr (e.0, e.1) ]

-- the first of two first misuses is the first of all
pub least-first_of : (P Q : TokenFault → Type 0) (a b : Option TokenFault) → IsLeast P a → IsLeast Q b → IsLeast (λ w. P w ⊎ Q w) (first_of a b)
least-first_of P Q None None h k = λ w c. elim c [ inl p ↦ h w p | inr q ↦ k w q ]
least-first_of P Q None (Some y) h k = (inr k.0, λ x c. elim c [ inl p ↦ absurd (h x p) | inr q ↦ k.1 x q ])
least-first_of P Q (Some x) None h k = (inl h.0, λ z c. elim c [ inl p ↦ h.1 z p | inr q ↦ absurd (k z q) ])
least-first_of P Q (Some x) (Some y) h k = by_test (comes_before y x) refl
  where
    by_test : (t : Bool) → comes_before y x ≡ t → IsLeast (λ w. P w ⊎ Q w) (cond t (Some y) (Some x))
    by_test true e = (inr k.0, λ z c. elim c [ inl p ↦ at_most-through y x z (before-at_most y x e) (h.1 z p) | inr q ↦ k.1 z q ])
    by_test false e = (inl h.0, λ z c. elim c [ inl p ↦ h.1 z p | inr q ↦ at_most-through x y z (not_before-at_most x y e) (k.1 z q) ])

-- a single misuse is the first one
pub least-alone : (o : Option TokenFault) → IsLeast (λ w. o ≡ Some w) o
least-alone None = λ w e. cc e
least-alone (Some x) = (refl, λ w e. inr (ap (λ (y : TokenFault). y.span.start) (some_same e), (let p : fault_number x.kind ≡ fault_number w.kind = ap (λ (y : TokenFault). fault_number y.kind) (some_same e) in omega (arith, p))))

-- the first misuse for which P holds is the first for which Q holds, if both hold of the same
-- misuses
pub least-same : (P Q : TokenFault → Type 0) (o : Option TokenFault) → ((w : TokenFault) → P w → Q w) → ((w : TokenFault) → Q w → P w) → IsLeast P o → IsLeast Q o
least-same P Q None f g h = λ w q. h w (g w q)
least-same P Q (Some x) f g h = (f x h.0, λ w q. h.1 w (g w q))

module _ (text : List ℕ) (bodies : List Body) (in_body : Bool) (ls : List ScopeElementKept) where
  pub scope_elements-none : IsLeast (IsWrongScopeElement text bodies in_body ls 0) None
  scope_elements-none = λ w h. let l = h.within in omega (arith, l)

  pub scope_elements-next : (i : ℕ) (l : ScopeElementKept) (ns : List (List ℕ)) (o : Option TokenFault) → slice_get ls i ≡ Some l →
      ((q : List ℕ) → has_name q ns ≡ has_name q (local_names (take i ls))) → IsLeast (IsWrongScopeElement text bodies in_body ls i) o →
      IsLeast (IsWrongScopeElement text bodies in_body ls (i + 1)) (first_of o (scope_element_at text bodies in_body (has_name l.name.items ns) l))
  scope_elements-next i l ns o e same h =
      let here = scope_element_at text bodies in_body (has_name l.name.items ns) l in
      least-same (λ w. IsWrongScopeElement text bodies in_body ls i w ⊎ (here ≡ Some w)) (IsWrongScopeElement text bodies in_body ls (i + 1)) (first_of o here)
      (λ w c. elim c [
        | inl p ↦ record { place = p.place; element = p.element; within = (let m = p.within in omega (arith, m)); there = p.there; is = p.is }
        | inr p ↦ record { place = i; element = l; within = omega arith; there = e; is = ap (λ b. scope_element_at text bodies in_body b l) (sym (same l.name.items)) ∙ p }
      ])
      (λ w p. elim (cases_order p.place i) [
        | inl q ↦ inr (let f : l ≡ p.element = some_same (sym e ∙ ap (slice_get ls) (sym q) ∙ p.there) in
            ap (λ b. scope_element_at text bodies in_body b l) (same l.name.items)
            ∙ ap (λ n. scope_element_at text bodies in_body (has_name l.name.items (local_names (take n ls))) l) (sym q)
            ∙ ap (λ (x : ScopeElementKept). scope_element_at text bodies in_body (has_name x.name.items (local_names (take p.place ls))) x) f ∙ p.is)
        | inr (inl q) ↦ inl (record { place = p.place; element = p.element; within = q; there = p.there; is = p.is })
        | inr (inr q) ↦ absurd (let m = p.within in omega (arith, m, q))
      ])
      (least-first_of (IsWrongScopeElement text bodies in_body ls i) (λ w. here ≡ Some w) o here h (least-alone here))

  pub scope_elements-all : (i : ℕ) (o : Option TokenFault) → i ≡ length ls → IsLeast (IsWrongScopeElement text bodies in_body ls i) o → IsLeast (IsWrongScopeElement text bodies in_body ls (length ls)) o
  scope_elements-all i o e h = subst (λ n. IsLeast (IsWrongScopeElement text bodies in_body ls n) o) e h

  pub names-next : (i : ℕ) (d l : ScopeElementKept) (ns new : List (List ℕ)) → i < length ls → l ≡ get_or ls i d → new ≡ cond (has_name l.name.items ns) ns (ns ++ l.name.items ∷ []) →
      ((q : List ℕ) → has_name q ns ≡ has_name q (local_names (take i ls))) → (q : List ℕ) → has_name q new ≡ has_name q (local_names (take (i + 1) ls))
  names-next i d l ns new lt is e same q =
      ap (has_name q) e ∙ has_name-added ns (local_names (take i ls)) l.name.items same q
      ∙ ap (λ (x : ScopeElementKept). has_name q (local_names (take i ls) ++ x.name.items ∷ [])) is
      ∙ ap (has_name q) (sym (map_push (λ (x : ScopeElementKept). x.name.items) (take i ls) (get_or ls i d)) ∙ ap local_names (sym (take_more ls i d lt)))

module _ (text : List ℕ) (fs : List Span) where
  pub formals-none : IsLeast (IsWrongFormal text fs 0) None
  formals-none = λ w h. let l = h.within in omega (arith, l)

  pub formals-next : (i : ℕ) (f : Span) (ns : List (List ℕ)) (o : Option TokenFault) → slice_get fs i ≡ Some f →
      ((q : List ℕ) → has_name q ns ≡ has_name q (formals_in text (take i fs))) → IsLeast (IsWrongFormal text fs i) o →
      IsLeast (IsWrongFormal text fs (i + 1)) (first_of o (token_fault_if (has_name (bytes_at text f) ns) kind.DeclaredTwice f))
  formals-next i f ns o e same h =
      let here = token_fault_if (has_name (bytes_at text f) ns) kind.DeclaredTwice f in
      least-same (λ w. IsWrongFormal text fs i w ⊎ (here ≡ Some w)) (IsWrongFormal text fs (i + 1)) (first_of o here)
      (λ w c. elim c [
        | inl p ↦ record { place = p.place; formal = p.formal; within = (let m = p.within in omega (arith, m)); there = p.there; is = p.is }
        | inr p ↦ record { place = i; formal = f; within = omega arith; there = e; is = ap (λ b. token_fault_if b kind.DeclaredTwice f) (sym (same (bytes_at text f))) ∙ p }
      ])
      (λ w p. elim (cases_order p.place i) [
        | inl q ↦ inr (let g : f ≡ p.formal = some_same (sym e ∙ ap (slice_get fs) (sym q) ∙ p.there) in
            ap (λ b. token_fault_if b kind.DeclaredTwice f) (same (bytes_at text f))
            ∙ ap (λ n. token_fault_if (has_name (bytes_at text f) (formals_in text (take n fs))) kind.DeclaredTwice f) (sym q)
            ∙ ap (λ x. token_fault_if (has_name (bytes_at text x) (formals_in text (take p.place fs))) kind.DeclaredTwice x) g ∙ p.is)
        | inr (inl q) ↦ inl (record { place = p.place; formal = p.formal; within = q; there = p.there; is = p.is })
        | inr (inr q) ↦ absurd (let m = p.within in omega (arith, m, q))
      ])
      (least-first_of (IsWrongFormal text fs i) (λ w. here ≡ Some w) o here h (least-alone here))

  pub formals-all : (i : ℕ) (o : Option TokenFault) → i ≡ length fs → IsLeast (IsWrongFormal text fs i) o → IsLeast (IsWrongFormal text fs (length fs)) o
  formals-all i o e h = subst (λ n. IsLeast (IsWrongFormal text fs n) o) e h

  pub formal_names-next : (i : ℕ) (d f : Span) (ns new : List (List ℕ)) → i < length fs → f ≡ get_or fs i d →
      new ≡ cond (has_name (bytes_at text f) ns) ns (ns ++ bytes_at text f ∷ []) →
      ((q : List ℕ) → has_name q ns ≡ has_name q (formals_in text (take i fs))) → (q : List ℕ) → has_name q new ≡ has_name q (formals_in text (take (i + 1) fs))
  formal_names-next i d f ns new lt is e same q =
      ap (has_name q) e ∙ has_name-added ns (formals_in text (take i fs)) (bytes_at text f) same q
      ∙ ap (λ x. has_name q (formals_in text (take i fs) ++ bytes_at text x ∷ [])) is
      ∙ ap (has_name q) (sym (map_push (bytes_at text) (take i fs) (get_or fs i d)) ∙ ap (formals_in text) (sym (take_more fs i d lt)))

  pub formals-at : (i : ℕ) (d : Span) (ns : List (List ℕ)) (o res w : Option TokenFault) (r : List ℕ) (t : Bool) → i < length fs → r ≡ bytes_at text (get_or fs i d) → t ≡ has_name r ns →
      w ≡ token_fault_if t kind.DeclaredTwice (get_or fs i d) → res ≡ first_of o w → ((q : List ℕ) → has_name q ns ≡ has_name q (formals_in text (take i fs))) →
      IsLeast (IsWrongFormal text fs i) o → IsLeast (IsWrongFormal text fs (i + 1)) res
  formals-at i d ns o res w r t l p q e f same h =
      let s = get_or fs i d in
      subst (IsLeast (IsWrongFormal text fs (i + 1)))
      (sym (f ∙ ap (first_of o) (e ∙ ap (λ b. token_fault_if b kind.DeclaredTwice s) (q ∙ ap (λ n. has_name n ns) p))))
      (formals-next i s ns o (slice_get-get_or fs i d l) same h)

  pub formal_names-at : (i : ℕ) (d : Span) (ns new : List (List ℕ)) (r : List ℕ) → i < length fs → r ≡ bytes_at text (get_or fs i d) →
      new ≡ cond (has_name r ns) ns (ns ++ r ∷ []) → ((q : List ℕ) → has_name q ns ≡ has_name q (formals_in text (take i fs))) →
      (q : List ℕ) → has_name q new ≡ has_name q (formals_in text (take (i + 1) fs))
  formal_names-at i d ns new r l p e same = formal_names-next i d (get_or fs i d) ns new l refl (e ∙ ap (λ n. cond (has_name n ns) ns (ns ++ n ∷ [])) p) same
