-- Ordered lists of connections: two with the same connections are equal, and none is longer than
-- one that has all of its connections.
use Rattle.std.proofs.Common.{◌≡◌, inl, inr, ◌≤◌, List, [], ◌∷◌, length, refl, sym, ap, ◌∙◌, subst, arith, Contains}
use Rattle.std.proofs.lemmas.List.Elements.{All-contains}
use Rattle.click_expand.specs.declared.flat.Connection.{Connection}
use Rattle.click_expand.specs.Flat.{StandsBefore, AreOrdered}
use Rattle.click_scopes.proofs.OfBodies.OneBodyPlace.{contains-nil, contains-cons}
use Rattle.click_scopes.proofs.OfLists.ListParts.{contains-here, contains-behind}

pub before-apart : (c d : Connection) → StandsBefore c d → StandsBefore d c → ⊥
before-apart c d h k = omega (arith, h, k)

pub before-itself : (c : Connection) → StandsBefore c c → ⊥
before-itself c h = before-apart c c h h

abbrev pub Has : List Connection → List Connection → Type 0
Has xs ys = (k : Connection) → Contains xs k → Contains ys k

first-before : (x : Connection) (xs : List Connection) (k : Connection) → AreOrdered (x ∷ xs) → Contains xs k → StandsBefore x k
first-before x xs k o i = All-contains (StandsBefore x) xs k o.0 i

-- a connection after the first is not the first
has-behind : (x : Connection) (xs : List Connection) (y : Connection) (ys : List Connection) → x ≡ y → AreOrdered (x ∷ xs) → Has (x ∷ xs) (y ∷ ys) → Has xs ys
has-behind x xs y ys e o f k i =
    elim (contains-cons y ys k (f k (contains-behind x xs k i))) [
      | inl q ↦ absurd (before-itself x (subst (StandsBefore x) (sym (e ∙ q)) (first-before x xs k o i)))
      | inr j ↦ j
    ]

first-same : (x : Connection) (xs : List Connection) (y : Connection) (ys : List Connection) → AreOrdered (x ∷ xs) → AreOrdered (y ∷ ys) → Has (x ∷ xs) (y ∷ ys) → Has (y ∷ ys) (x ∷ xs) → x ≡ y
first-same x xs y ys o p f g =
    elim (contains-cons y ys x (f x (contains-here x xs))) [
      | inl e ↦ sym e
      | inr i ↦ elim (contains-cons x xs y (g y (contains-here y ys))) [
        | inl e ↦ e
        | inr j ↦ absurd (before-apart x y (first-before x xs y o j) (first-before y ys x p i))
      ]
    ]

-- ordered lists with the same connections are equal
pub ordered-once : (xs ys : List Connection) → AreOrdered xs → AreOrdered ys → Has xs ys → Has ys xs → xs ≡ ys
ordered-once [] [] o p f g = refl
ordered-once [] (y ∷ ys) o p f g = absurd (contains-nil y (g y (contains-here y ys)))
ordered-once (x ∷ xs) [] o p f g = absurd (contains-nil x (f x (contains-here x xs)))
ordered-once (x ∷ xs) (y ∷ ys) o p f g =
    let e = first-same x xs y ys o p f g in
    ap (λ z. z ∷ xs) e ∙ ap (λ zs. y ∷ zs) (ordered-once xs ys o.1 p.1 (has-behind x xs y ys e o f) (has-behind y ys x xs (sym e) p g))

-- if the other list's first connection comes before this list's, it is not in this list
has-past : (x : Connection) (xs : List Connection) (y : Connection) (ys : List Connection) → AreOrdered (x ∷ xs) → StandsBefore y x → Has (x ∷ xs) (y ∷ ys) → Has (x ∷ xs) ys
has-past x xs y ys o b f k i =
    elim (contains-cons y ys k (f k i)) [
      | inl e ↦ elim (contains-cons x xs k i) [
        | inl q ↦ absurd (before-itself x (subst (λ z. StandsBefore z x) (e ∙ sym q) b))
        | inr j ↦ absurd (before-apart x y (subst (StandsBefore x) (sym e) (first-before x xs k o j)) b)
      ]
      | inr j ↦ j
    ]

-- an ordered list is no longer than one that has all its connections
pub ordered-within : (xs ys : List Connection) → AreOrdered xs → AreOrdered ys → Has xs ys → length xs ≤ length ys
ordered-within [] ys o p f = omega arith
ordered-within (x ∷ xs) [] o p f = absurd (contains-nil x (f x (contains-here x xs)))
ordered-within (x ∷ xs) (y ∷ ys) o p f =
    elim (contains-cons y ys x (f x (contains-here x xs))) [
      | inl e ↦ (let r = ordered-within xs ys o.1 p.1 (has-behind x xs y ys (sym e) o f) in omega arith)
      | inr i ↦ (let r = ordered-within (x ∷ xs) ys o p.1 (has-past x xs y ys o (first-before y ys x p i) f) in omega arith)
    ]
