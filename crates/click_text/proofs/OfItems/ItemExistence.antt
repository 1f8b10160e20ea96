-- Every text has a list of items.
use Rattle.std.proofs.Common.{◌≡◌, ℕ, zero, suc, ◌<◌, ◌≤◌, List, [], ◌∷◌, length, take, drop, Bool, true, false, eqb, refl, sym, ◌∙◌, ap, subst, arith, inl, inr, ◌⊎◌, length-drop}
use Rattle.std.specs.Prelude.{if◌then◌else◌}
use Rattle.std.specs.List.{list_all}
use Rattle.std.proofs.lemmas.Bool.{false≢true, cases_Bool, eqb-true}
use Rattle.click_text.specs.declared.items.ItemKind.{ItemKind}
use Rattle.click_text.specs.declared.items.ItemKind.TheVariants as kind
use Rattle.click_text.specs.declared.strings.Mode.TheVariants as mode
use Rattle.click_text.specs.Pieces.{ends_comment}
use Rattle.click_text.specs.Items.{ends_quote, IsItem, LongestItem, Item, item, AreItems, ended, next}
use Rattle.click_text.proofs.OfItems.ItemForms.{no_bytes, short_of, short_form}
use Rattle.click_text.proofs.OfItems.OneItemList.{item_some}

-- whether two bytes and some others are one item
abbrev is_long : ℕ → ℕ → List ℕ → Bool
is_long x y r =
    if eqb x 47 then (if eqb y 47 then list_all (λ b. if eqb b 10 then false else true) r else if eqb y 42 then ends_comment r else false)
    else if eqb x 34 then ends_quote mode.Double (y ∷ r)
    else if eqb x 39 then ends_quote mode.Single (y ∷ r)
    else if eqb x 92 then (if eqb y 60 then ends_quote mode.Angle r else false)
    else false

long_whole : (k : ItemKind) (x y : ℕ) (r : List ℕ) → IsItem k (x ∷ y ∷ r) → is_long x y r ≡ true
long_whole kind.White x y r (b, w, e) = cc
long_whole kind.Comment x y r (inl (q, e, a)) =
    let f : x ≡ 47 = cc in let g : y ≡ 47 = cc in let h : r ≡ q = cc in rw (f, g, h) a
long_whole kind.Comment x y r (inr (q, e, a)) =
    let f : x ≡ 47 = cc in let g : y ≡ 42 = cc in let h : r ≡ q = cc in rw (f, g, h) a
long_whole kind.Double x y r (q, e, a) = let f : x ≡ 34 = cc in let h : y ∷ r ≡ q = cc in rw f (subst (λ p. ends_quote mode.Double p ≡ true) (sym h) a)
long_whole kind.Single x y r (q, e, a) = let f : x ≡ 39 = cc in let h : y ∷ r ≡ q = cc in rw f (subst (λ p. ends_quote mode.Single p ≡ true) (sym h) a)
long_whole kind.Hexadecimal x y r (q, e, a) =
    let f : x ≡ 92 = cc in let g : y ≡ 60 = cc in let h : r ≡ q = cc in rw (f, g, h) a
long_whole (kind.Byte b) x y r (w, e) = cc

abbrev AnItem : List ℕ → Type 0
AnItem p = (k : ItemKind) × IsItem k p

comment_whole : (y : ℕ) (r : List ℕ) → is_long 47 y r ≡ true → AnItem (47 ∷ y ∷ r)
comment_whole y r h = elim (cases_Bool (eqb y 47)) [
  | inl e ↦ let f = eqb-true y 47 e in let g = rw e at h in (kind.Comment, inl (r, ap (λ b. 47 ∷ b ∷ r) f, g))
  | inr e ↦ elim (cases_Bool (eqb y 42)) [
    | inl f ↦ let g = eqb-true y 42 f in let i = rw (e, f) at h in (kind.Comment, inr (r, ap (λ b. 47 ∷ b ∷ r) g, i))
    | inr f ↦ let i = rw (e, f) at h in absurd (false≢true i)
  ]
]

hexadecimal_whole : (y : ℕ) (r : List ℕ) → is_long 92 y r ≡ true → AnItem (92 ∷ y ∷ r)
hexadecimal_whole y r h = elim (cases_Bool (eqb y 60)) [
  | inl e ↦ let f = eqb-true y 60 e in let g = rw e at h in (kind.Hexadecimal, (r, ap (λ b. 92 ∷ b ∷ r) f, g))
  | inr e ↦ let g = rw e at h in absurd (false≢true g)
]

whole_item : (x y : ℕ) (r : List ℕ) → is_long x y r ≡ true → AnItem (x ∷ y ∷ r)
whole_item x y r h = elim (cases_Bool (eqb x 47)) [
  | inl e ↦ let f = eqb-true x 47 e in rw f (comment_whole y r (rw f at h))
  | inr e ↦ elim (cases_Bool (eqb x 34)) [
    | inl f ↦ let g = eqb-true x 34 f in let i = rw (e, f) at h in (kind.Double, (y ∷ r, ap (λ b. b ∷ y ∷ r) g, i))
    | inr f ↦ elim (cases_Bool (eqb x 39)) [
      | inl g ↦ let i = eqb-true x 39 g in let j = rw (e, f, g) at h in (kind.Single, (y ∷ r, ap (λ b. b ∷ y ∷ r) i, j))
      | inr g ↦ elim (cases_Bool (eqb x 92)) [
        | inl i ↦ let j = eqb-true x 92 i in rw j (hexadecimal_whole y r (rw j at h))
        | inr i ↦ let j = rw (e, f, g, i) at h in absurd (false≢true j)
      ]
    ]
  ]
]

-- it can be decided whether bytes are an item
some_item : (p : List ℕ) → AnItem p ⊎ (AnItem p → ⊥)
some_item [] = inr (λ w. no_bytes w.0 w.1)
some_item (x ∷ []) = inl (short_of x, short_form x)
some_item (x ∷ y ∷ r) = elim (cases_Bool (is_long x y r)) [
  | inl e ↦ inl (whole_item x y r e)
  | inr e ↦ inr (λ w. false≢true (sym e ∙ long_whole w.0 x y r w.1))
]

next_or_more : (m n : ℕ) → m < n → (n ≡ suc m) ⊎ (suc m < n)
next_or_more m zero h = absurd (omega arith)
next_or_more zero (suc zero) h = inl refl
next_or_more zero (suc (suc n)) h = inr (omega arith)
next_or_more (suc m) (suc n) h = elim (next_or_more m n (omega arith)) [ inl e ↦ inl (ap suc e) | inr e ↦ inr (omega arith) ]

abbrev First : List ℕ → Type 0
First text = (k : ItemKind) × (n : ℕ) × LongestItem text k n

-- a longest item exists, if none is longer than m bytes
longest_within : (text : List ℕ) (m : ℕ) → m ≤ length text → 0 < m → ((k : ItemKind) (n : ℕ) → m < n → n ≤ length text → IsItem k (take n text) → ⊥) → First text
longest_within text zero l z h = absurd (omega arith)
longest_within [] (suc m) l z h = absurd (omega arith)
longest_within (x ∷ r) (suc zero) l z h = (short_of x, suc zero, record { within = l; form = short_form x; longest = h })
longest_within (x ∷ r) (suc (suc m)) l z h = elim (some_item (take (suc (suc m)) (x ∷ r))) [
  | inl w ↦ (w.0, suc (suc m), record { within = l; form = w.1; longest = h })
  | inr w ↦ longest_within (x ∷ r) (suc m) (omega arith) (omega arith)
      (λ k n a b p. elim (next_or_more (suc m) n a) [ inl e ↦ w (k, rw e at p) | inr e ↦ h k n e b p ])
]

abbrev Reading : List ℕ → Type 0
Reading text = (items : List Item) × AreItems text items

reading_within : (most : ℕ) (text : List ℕ) → length text ≤ most → Reading text
reading_within most [] h = ([], ended)
reading_within zero (x ∷ r) h = absurd (omega arith)
reading_within (suc most) (x ∷ r) h =
    let text = x ∷ r in
    let w : First text = longest_within text (length text) (omega arith) (omega arith) (λ k n a b p. omega arith) in
    let s : Reading (drop w.1 text) = reading_within most (drop w.1 text) (omega (arith, length-drop w.1 text, item_some text w.0 w.1 w.2)) in
    (item w.0 (take w.1 text) ∷ s.0, next text w.0 w.1 s.0 w.2 s.1)

pub reading : (text : List ℕ) → (items : List Item) × AreItems text items
reading text = reading_within (length text) text (omega arith)
