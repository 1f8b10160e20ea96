-- Parts of lists.
use Rattle.std.proofs.Common.{◌≡◌, inl, inr, ℕ, zero, suc, ◌<◌, List, [], ◌∷◌, ◌++◌, map, reverse, length, Some, refl, ap, subst, arith, Contains}
use Rattle.std.specs.List.{slice_get}
use Rattle.std.proofs.lemmas.List.{reverse-append}
use Rattle.std.proofs.lemmas.Option.{same_Some}
use Rattle.std.proofs.lemmas.List.Elements.{Contains-append_cases}
use Rattle.click_scopes.proofs.OfBodies.OneBodyPlace.{contains-nil, contains-cons}

pub contains-here : {X : Type 0} (x : X) (xs : List X) → Contains (x ∷ xs) x
contains-here x xs = (zero, omega arith, refl)

pub contains-behind : {X : Type 0} (y : X) (xs : List X) (x : X) → Contains xs x → Contains (y ∷ xs) x
contains-behind y xs x h = (suc h.0, (let l = h.1 in omega arith), h.2)

pub contains-map : {X Y : Type 0} (f : X → Y) (xs : List X) (y : Y) → Contains (map f xs) y → (x : X) × Contains xs x × (f x ≡ y)
contains-map f [] y h = absurd (contains-nil y h)
contains-map f (x ∷ xs) y h =
    elim (contains-cons (f x) (map f xs) y h) [
      | inl e ↦ (x, contains-here x xs, e)
      | inr i ↦ (let r = contains-map f xs y i in (r.0, contains-behind x xs r.0 r.1, r.2))
    ]

pub map-contains : {X Y : Type 0} (f : X → Y) (xs : List X) (x : X) → Contains xs x → Contains (map f xs) (f x)
map-contains f [] x h = absurd (contains-nil x h)
map-contains f (y ∷ xs) x h =
    elim (contains-cons y xs x h) [
      | inl e ↦ subst (λ z. Contains (f y ∷ map f xs) (f z)) e (contains-here (f y) (map f xs))
      | inr i ↦ contains-behind (f y) (map f xs) (f x) (map-contains f xs x i)
    ]

pub reverse-cons : {X : Type 0} (x : X) (xs : List X) → reverse (x ∷ xs) ≡ reverse xs ++ x ∷ []
reverse-cons x xs = reverse-append (x ∷ []) xs

pub contains-reverse : {X : Type 0} (xs : List X) (x : X) → Contains (reverse xs) x → Contains xs x
contains-reverse [] x h = h
contains-reverse (y ∷ xs) x h =
    elim (Contains-append_cases (reverse xs) (y ∷ []) x (subst (λ ys. Contains ys x) (reverse-cons y xs) h)) [
      | inl i ↦ contains-behind y xs x (contains-reverse xs x i)
      | inr j ↦ elim (contains-cons y [] x j) [ inl e ↦ subst (Contains (y ∷ xs)) e (contains-here y xs) | inr n ↦ absurd (contains-nil x n) ]
    ]

-- an item of a list is between others
pub contains-split : {X : Type 0} (xs : List X) (x : X) → Contains xs x → (front : List X) × (back : List X) × (xs ≡ front ++ x ∷ back)
contains-split [] x h = absurd (contains-nil x h)
contains-split (y ∷ xs) x h =
    elim (contains-cons y xs x h) [
      | inl e ↦ ([], xs, ap (λ z. z ∷ xs) e)
      | inr i ↦ (let r = contains-split xs x i in (y ∷ r.0, r.1, ap (λ zs. y ∷ zs) r.2))
    ]

pub contains-at : {X : Type 0} (xs : List X) (i : ℕ) (x : X) → slice_get xs i ≡ Some x → Contains xs x
contains-at [] i x e = absurd (cc)
contains-at (y ∷ xs) zero x e = let f : y ≡ x = cc in subst (Contains (y ∷ xs)) f (contains-here y xs)
contains-at (y ∷ xs) (suc i) x e = contains-behind y xs x (contains-at xs i x e)

pub at-contains : {X : Type 0} (xs : List X) (x : X) → Contains xs x → (i : ℕ) × (slice_get xs i ≡ Some x)
at-contains [] x h = absurd (contains-nil x h)
at-contains (y ∷ xs) x h =
    elim (contains-cons y xs x h) [
      | inl e ↦ (zero, ap Some e)
      | inr i ↦ (let r = at-contains xs x i in (suc r.0, r.1))
    ]

-- the item at an index of a list, and those around it
pub record IsAt {X : Type 0} (xs : List X) (i : ℕ) (x : X) : Type 0 where
  pub front : List X
  pub back : List X
  pub is : xs ≡ front ++ x ∷ back
  pub count : length front ≡ i
  pub before : (k : ℕ) → k < i → slice_get xs k ≡ slice_get front k

pub at-place : {X : Type 0} (xs : List X) (i : ℕ) (x : X) → slice_get xs i ≡ Some x → IsAt xs i x
at-place [] i x e = absurd (cc)
at-place (y ∷ xs) zero x e = let f : y ≡ x = cc in record { front = []; back = xs; is = ap (λ z. z ∷ xs) f; count = refl; before = λ k l. absurd (omega (arith, l)) }
at-place (y ∷ xs) (suc i) x e =
    let r = at-place xs i x e in
    record { front = y ∷ r.front; back = r.back; is = ap (λ z. y ∷ z) r.is; count = ap suc r.count; before = before-next y xs r.front i r.before }
  where
    before-next : {X : Type 0} (y : X) (xs zs : List X) (i : ℕ) → ((k : ℕ) → k < i → slice_get xs k ≡ slice_get zs k) → (k : ℕ) → k < suc i → slice_get (y ∷ xs) k ≡ slice_get (y ∷ zs) k
    before-next y xs zs i h zero l = refl
    before-next y xs zs i h (suc k) l = h k (omega (arith, l))

-- an item of a mapped list is the image of an item
pub map-there : {X Y : Type 0} (f : X → Y) (xs : List X) (i : ℕ) (y : Y) → slice_get (map f xs) i ≡ Some y → (x : X) × (slice_get xs i ≡ Some x) × (f x ≡ y)
map-there f [] i y h = absurd (cc h)
map-there f (x ∷ xs) zero y h = (x, refl, same_Some (f x) y h)
map-there f (x ∷ xs) (suc i) y h = map-there f xs i y h
