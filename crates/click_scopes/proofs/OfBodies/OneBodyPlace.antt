-- A body is in one place only: the scopes around it, and the statements before it in them, are
-- determined.
use Rattle.std.proofs.Common.{◌≡◌, ◌⊎◌, inl, inr, ℕ, suc, zero, ◌+◌, ◌<◌, ◌≤◌, List, [], ◌∷◌, ◌++◌, reverse, length, refl, sym, ap, ◌∙◌, subst, arith, Contains}
use Rattle.std.specs.List.{slice_get}
use Rattle.std.proofs.lemmas.Option.{slice_get_past}
use Rattle.std.proofs.lemmas.Bool.{cases_order, cases_lt}
use Rattle.std.proofs.lemmas.List.Elements.{Contains-append_left, Contains-append_right}
use Rattle.click_text.specs.declared.syntax.Statement.{Statement}
use Rattle.click_text.specs.declared.syntax.Body.{Body}
use Rattle.click_text.specs.declared.syntax.Config.{Config}
use Rattle.click_scopes.specs.Scopes.{Scope, whole, inside, bodies_in, body_statements, statements_of, Stands, at_top, nested}
use Rattle.click_scopes.specs.kept.Nesting.{direct, Nests, no_bodies, next_body, IsNested}

pub contains-nil : {X : Type 0} (x : X) → Contains [] x → ⊥
contains-nil x h = omega (arith, h.1)

pub contains-cons : {X : Type 0} (x : X) (xs : List X) (y : X) → Contains (x ∷ xs) y → (x ≡ y) ⊎ Contains xs y
contains-cons x xs y (zero, l, e) = inl e
contains-cons x xs y (suc k, l, e) = inr (k, omega (arith, l), e)

order : (p c : ℕ) → (p < c) ⊎ ((p ≡ c) ⊎ (c < p))
order p c = elim (cases_order p c) [ inl e ↦ inr (inl e) | inr (inl l) ↦ inl l | inr (inr g) ↦ inr (inr g) ]

module _ (bodies : List Body) where
  -- the bodies in the statements of body p
  abbrev pub inner : ℕ → List ℕ
  inner p = direct (body_statements (slice_get bodies p))

  pub nests-order : (a : ℕ) (rs : List ℕ) (z : ℕ) → Nests bodies a rs z → a ≤ z
  nests-order a rs z (no_bodies at) = omega arith
  nests-order a rs z (next_body from b to bs l h k) = let p = nests-order from (inner b) b h in let q = nests-order (b + 1) bs to k in omega arith

  pub nested_body-range : (a : ℕ) (rs : List ℕ) (z : ℕ) (b : ℕ) → Nests bodies a rs z → Contains rs b → (a ≤ b) × (b < z)
  nested_body-range a rs z b (no_bodies at) i = absurd (contains-nil b i)
  nested_body-range a rs z b (next_body from c to bs l h k) i =
      let p = nests-order from (inner c) c h in
      let q = nests-order (c + 1) bs to k in
      elim (contains-cons c bs b i) [
        | inl e ↦ (omega (arith, e), omega (arith, e))
        | inr j ↦ (let r = nested_body-range (c + 1) bs to b k j in (omega (arith, r.0), omega (arith, r.1)))
      ]

  -- a body has a lower index than the body that contains it
  pub child-range : (a : ℕ) (rs : List ℕ) (z : ℕ) (p b : ℕ) → Nests bodies a rs z → a ≤ p → p < z → Contains (inner p) b → (a ≤ b) × (b < p)
  child-range a rs z p b (no_bodies at) l m i = absurd (omega (arith, l, m))
  child-range a rs z p b (next_body from c to bs n h k) l m i =
      elim (order p c) [
        | inl q ↦ child-range from (inner c) c p b h l q i
        | inr (inl q) ↦ (let r = nested_body-range from (inner c) c b h (subst (λ x. Contains (inner x) b) q i) in (r.0, omega (arith, r.1, q)))
        | inr (inr q) ↦ (let r = child-range (c + 1) bs to p b k (omega (arith, q)) m i in let o = nests-order from (inner c) c h in (omega (arith, r.0), r.1))
      ]

  nested_body-no_child : (a : ℕ) (rs : List ℕ) (z : ℕ) (p b : ℕ) → Nests bodies a rs z → a ≤ p → p < z → Contains rs b → Contains (inner p) b → ⊥
  nested_body-no_child a rs z p b (no_bodies at) l m i j = contains-nil b i
  nested_body-no_child a rs z p b (next_body from c to bs n h k) l m i j =
      let range = child-range from (c ∷ bs) to p b (next_body from c to bs n h k) l m j in
      elim (contains-cons c bs b i) [
        | inl e ↦ elim (order p c) [
          | inl q ↦ omega (arith, range.1, e, q)
          | inr (inl q) ↦ omega (arith, range.1, e, q)
          | inr (inr q) ↦ (let r = child-range (c + 1) bs to p b k (omega (arith, q)) m j in omega (arith, r.0, e))
        ]
        | inr t ↦ elim (order p c) [
          | inl q ↦ (let r = nested_body-range (c + 1) bs to b k t in omega (arith, range.1, r.0, q))
          | inr (inl q) ↦ (let r = nested_body-range (c + 1) bs to b k t in omega (arith, range.1, r.0, q))
          | inr (inr q) ↦ nested_body-no_child (c + 1) bs to p b k (omega (arith, q)) m t j
        ]
      ]

  one-parent : (a : ℕ) (rs : List ℕ) (z : ℕ) (p q b : ℕ) → Nests bodies a rs z → a ≤ p → p < z → a ≤ q → q < z → Contains (inner p) b → Contains (inner q) b → p ≡ q
  one-parent a rs z p q b (no_bodies at) l m l' m' i j = absurd (omega (arith, l, m))
  one-parent a rs z p q b (next_body from c to bs n h k) l m l' m' i j =
      elim (order p c) [
        | inl s ↦ elim (order q c) [
          | inl t ↦ one-parent from (inner c) c p q b h l s l' t i j
          | inr (inl t) ↦ absurd (nested_body-no_child from (inner c) c p b h l s (subst (λ x. Contains (inner x) b) t j) i)
          | inr (inr t) ↦ (let r = child-range from (inner c) c p b h l s i in let w = child-range (c + 1) bs to q b k (omega (arith, t)) m' j in absurd (omega (arith, r.1, w.0, s)))
        ]
        | inr (inl s) ↦ elim (order q c) [
          | inl t ↦ absurd (nested_body-no_child from (inner c) c q b h l' t (subst (λ x. Contains (inner x) b) s i) j)
          | inr (inl t) ↦ s ∙ sym t
          | inr (inr t) ↦ (let r = nested_body-range from (inner c) c b h (subst (λ x. Contains (inner x) b) s i) in let w = child-range (c + 1) bs to q b k (omega (arith, t)) m' j in absurd (omega (arith, r.1, w.0)))
        ]
        | inr (inr s) ↦ elim (order q c) [
          | inl t ↦ (let r = child-range (c + 1) bs to p b k (omega (arith, s)) m i in let w = child-range from (inner c) c q b h l' t j in absurd (omega (arith, r.0, w.1, t)))
          | inr (inl t) ↦ (let r = child-range (c + 1) bs to p b k (omega (arith, s)) m i in let w = nested_body-range from (inner c) c b h (subst (λ x. Contains (inner x) b) t j) in absurd (omega (arith, r.0, w.1)))
          | inr (inr t) ↦ one-parent (c + 1) bs to p q b k (omega (arith, s)) m (omega (arith, t)) m' i j
        ]
      ]

  nested_bodies-apart : (a : ℕ) (xs ys : List ℕ) (z : ℕ) (b : ℕ) → Nests bodies a (xs ++ ys) z → Contains xs b → Contains ys b → ⊥
  nested_bodies-apart a [] ys z b h i j = contains-nil b i
  nested_bodies-apart a (x ∷ xs) ys z b (next_body from c to bs n h k) i j =
      elim (contains-cons x xs b i) [
        | inl e ↦ (let r = nested_body-range (x + 1) (xs ++ ys) z b k (Contains-append_right xs ys b j) in omega (arith, r.0, e))
        | inr t ↦ nested_bodies-apart (x + 1) xs ys z b k t j
      ]

  nests-behind : (a : ℕ) (xs ys : List ℕ) (z : ℕ) → Nests bodies a (xs ++ ys) z → (m : ℕ) × Nests bodies m ys z
  nests-behind a [] ys z h = (a, h)
  nests-behind a (x ∷ xs) ys z (next_body from c to bs n h k) = nests-behind (x + 1) xs ys z k

  pub direct-has : (before : List Statement) (st : Statement) (after : List Statement) (b : ℕ) → Contains (bodies_in st) b → Contains (direct (before ++ st ∷ after)) b
  direct-has [] st after b i = Contains-append_left (bodies_in st) (direct after) b i
  direct-has (x ∷ xs) st after b i = Contains-append_right (bodies_in x) (direct (xs ++ st ∷ after)) b (direct-has xs st after b i)

  split-once : (before before' after after' : List Statement) (st st' : Statement) (a z b : ℕ) → before ++ st ∷ after ≡ before' ++ st' ∷ after' →
      Nests bodies a (direct (before ++ st ∷ after)) z → Contains (bodies_in st) b → Contains (bodies_in st') b → before ≡ before'
  split-once [] [] after after' st st' a z b e h i j = refl
  split-once [] (y ∷ ys) after after' st st' a z b e h i j =
      let t : after ≡ ys ++ st' ∷ after' = cc e in
      absurd (nested_bodies-apart a (bodies_in st) (direct after) z b h i (subst (λ x. Contains (direct x) b) (sym t) (direct-has ys st' after' b j)))
  split-once (x ∷ xs) [] after after' st st' a z b e h i j =
      let t : x ≡ st' = cc e in
      absurd (nested_bodies-apart a (bodies_in x) (direct (xs ++ st ∷ after)) z b h (subst (λ y. Contains (bodies_in y) b) (sym t) j) (direct-has xs st after b i))
  split-once (x ∷ xs) (y ∷ ys) after after' st st' a z b e h i j =
      let s : x ≡ y = cc e in
      let t : xs ++ st ∷ after ≡ ys ++ st' ∷ after' = cc e in
      let m = nests-behind a (bodies_in x) (direct (xs ++ st ∷ after)) z h in
      let r = split-once xs ys after after' st st' m.0 z b t m.1 i j in
      ap (λ w. w ∷ xs) s ∙ ap (λ w. y ∷ w) r

-- an index at which a body contains another one is an index of a body
pub place-in : (bodies : List Body) (p b : ℕ) → Contains (inner bodies p) b → p < length bodies
place-in bodies p b i =
    elim (cases_lt p (length bodies)) [
      | inl l ↦ l
      | inr g ↦ absurd (contains-nil b (subst (λ o. Contains (direct (body_statements o)) b) (slice_get_past bodies p g) i))
    ]

same-scope : (c : Config) → IsNested c → (s t : Scope) (b : ℕ) → Contains (direct (statements_of c s)) b → Contains (direct (statements_of c t)) b → s ≡ t
same-scope c n whole whole b i j = refl
same-scope c n whole (inside q) b i j = absurd (nested_body-no_child c.bodies 0 (direct c.statements) (length c.bodies) q b n (omega arith) (place-in c.bodies q b j) i j)
same-scope c n (inside p) whole b i j = absurd (nested_body-no_child c.bodies 0 (direct c.statements) (length c.bodies) p b n (omega arith) (place-in c.bodies p b i) j i)
same-scope c n (inside p) (inside q) b i j =
    ap inside (one-parent c.bodies 0 (direct c.statements) (length c.bodies) p q b n (omega arith) (place-in c.bodies p b i) (omega arith) (place-in c.bodies q b j) i j)

-- the statements of a scope are nested
nests-of : (bodies : List Body) (a : ℕ) (rs : List ℕ) (z p : ℕ) → Nests bodies a rs z → a ≤ p → p < z → (m : ℕ) × Nests bodies m (inner bodies p) p
nests-of bodies a rs z p (no_bodies at) l m = absurd (omega (arith, l, m))
nests-of bodies a rs z p (next_body from c to bs n h k) l m =
    elim (order p c) [
      | inl q ↦ nests-of bodies from (inner bodies c) c p h l q
      | inr (inl q) ↦ (from, subst (λ x. Nests bodies from (inner bodies x) x) (sym q) h)
      | inr (inr q) ↦ nests-of bodies (c + 1) bs to p k (omega (arith, q)) m
    ]

scope-nests : (c : Config) → IsNested c → (s : Scope) (b : ℕ) → Contains (direct (statements_of c s)) b → (a : ℕ) × (z : ℕ) × Nests c.bodies a (direct (statements_of c s)) z
scope-nests c n whole b i = (0, length c.bodies, n)
scope-nests c n (inside p) b i =
    let r = nests-of c.bodies 0 (direct c.statements) (length c.bodies) p n (omega arith) (place-in c.bodies p b i) in (r.0, p, r.1)

-- the index of a scope determines what is visible before it and the scopes around it
pub stands-once : (c : Config) → IsNested c → (s : Scope) (v v' : List Statement) (a a' : List Scope) → Stands c s v a → Stands c s v' a' → (v ≡ v') × (a ≡ a')
stands-once c n s v v' a a' at_top at_top = (refl, refl)
stands-once c n s v v' a a' (nested t visible enclosing before after st b h e i) (nested t' visible' enclosing' before' after' st' b' h' e' i') =
    let k : Contains (direct (statements_of c t)) b = subst (λ x. Contains (direct x) b) (sym e) (direct-has c.bodies before st after b i) in
    let k' : Contains (direct (statements_of c t')) b = subst (λ x. Contains (direct x) b) (sym e') (direct-has c.bodies before' st' after' b i') in
    let same : t' ≡ t = same-scope c n t' t b k' k in
    let o = stands-once c n t visible visible' enclosing enclosing' h (subst (λ x. Stands c x visible' enclosing') same h') in
    let r = scope-nests c n t b k in
    let f : before ≡ before' =
    split-once c.bodies before before' after after' st st' r.0 r.1 b (sym e ∙ ap (statements_of c) (sym same) ∙ e')
    (subst (λ x. Nests c.bodies r.0 (direct x) r.1) e r.2) i i' in
    (ap (λ x. reverse x ++ visible) f ∙ ap (λ x. reverse before' ++ x) o.0, ap (λ x. x ∷ enclosing) (sym same) ∙ ap (λ x. t' ∷ x) o.1)
