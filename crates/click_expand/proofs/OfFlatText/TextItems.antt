-- Every text has items, and their bytes are the text if no parameter has a value.
use Rattle.std.proofs.Common.{◌≡◌, ◌⊎◌, inl, inr, ℕ, zero, suc, ◌<◌, ◌≤◌, List, [], ◌∷◌, ◌++◌, length, take, drop, Bool, true, false, eqb, Option, Some, None, refl, sym, ◌∙◌, ap, arith, length-drop}
use Rattle.std.specs.Prelude.{if◌then◌else◌}
use Rattle.std.specs.List.{list_all}
use Rattle.std.proofs.lemmas.Bool.{cases_Bool, cases_eq, false≢true}
use Rattle.std.proofs.lemmas.List.{take-append-drop}
use Rattle.click_text.specs.declared.items.ItemKind.{ItemKind}
use Rattle.click_text.specs.declared.items.ItemKind.TheVariants as kind
use Rattle.click_text.specs.declared.strings.Mode.TheVariants as mode
use Rattle.click_text.specs.Pieces.{white, ends_comment}
use Rattle.click_text.specs.Items.{Item, item, IsItem, ends_quote, LongestItem, AreItems, ended, next, bytes_of}
use Rattle.click_expand.specs.Parameters.{Formal, formal_at, value_by, replaced}

abbrev Decided : Type 0 → Type 0
Decided P = P ⊎ (P → ⊥)

abbrev Begins : ℕ → (List ℕ → Bool) → List ℕ → Type 0
Begins a f p = (r : List ℕ) × (p ≡ a ∷ r) × (f r ≡ true)

abbrev BeginsTwo : ℕ → ℕ → (List ℕ → Bool) → List ℕ → Type 0
BeginsTwo a b f p = (r : List ℕ) × (p ≡ a ∷ b ∷ r) × (f r ≡ true)

begins_decided : (a : ℕ) (f : List ℕ → Bool) (p : List ℕ) → Decided (Begins a f p)
begins_decided a f [] = inr (λ (r, e, h). cc)
begins_decided a f (x ∷ p) = elim (cases_eq x a) [
  | inl e ↦ elim (cases_Bool (f p)) [
    | inl h ↦ inl (p, ap (λ (y : ℕ). y ∷ p) e, h)
    | inr h ↦ inr (λ (r, g, i). let j : p ≡ r = cc in let k : f p ≡ true = rw j i in false≢true (sym h ∙ k))
  ]
  | inr e ↦ inr (λ (r, g, i). let j : x ≡ a = cc in e j)
]

begins_two_decided : (a b : ℕ) (f : List ℕ → Bool) (p : List ℕ) → Decided (BeginsTwo a b f p)
begins_two_decided a b f [] = inr (λ (r, e, h). cc)
begins_two_decided a b f (x ∷ []) = inr (λ (r, e, h). cc)
begins_two_decided a b f (x ∷ y ∷ p) = elim (cases_eq x a) [
  | inl e ↦ elim (cases_eq y b) [
    | inl d ↦ elim (cases_Bool (f p)) [
      | inl h ↦ inl (p, rw (e, d) refl, h)
      | inr h ↦ inr (λ (r, g, i). let j : p ≡ r = cc in let k : f p ≡ true = rw j i in false≢true (sym h ∙ k))
    ]
    | inr d ↦ inr (λ (r, g, i). let j : y ≡ b = cc in d j)
  ]
  | inr e ↦ inr (λ (r, g, i). let j : x ≡ a = cc in e j)
]

abbrev in_line : List ℕ → Bool
in_line r = list_all (λ b. if eqb b 10 then false else true) r

abbrev IsNone : List ℕ → Type 0
IsNone p = (j : ItemKind) → IsItem j p → ⊥

abbrev IsSomeItem : List ℕ → Type 0
IsSomeItem p = (j : ItemKind) × IsItem j p

none_empty : IsNone []
none_empty kind.White (b, w, e) = cc
none_empty kind.Comment h = elim h [ inl (r, e, a) ↦ cc | inr (r, e, a) ↦ cc ]
none_empty kind.Double (r, e, a) = cc
none_empty kind.Single (r, e, a) = cc
none_empty kind.Hexadecimal (r, e, a) = cc
none_empty (kind.Byte b) (w, e) = cc

none_long : (x y : ℕ) (p : List ℕ) → (BeginsTwo 47 47 in_line (x ∷ y ∷ p) → ⊥) → (BeginsTwo 47 42 ends_comment (x ∷ y ∷ p) → ⊥) → (Begins 34 (ends_quote mode.Double) (x ∷ y ∷ p) → ⊥) →
    (Begins 39 (ends_quote mode.Single) (x ∷ y ∷ p) → ⊥) → (BeginsTwo 92 60 (ends_quote mode.Angle) (x ∷ y ∷ p) → ⊥) → IsNone (x ∷ y ∷ p)
none_long x y p a b c d e kind.White (w, v, q) = cc
none_long x y p a b c d e kind.Comment h = elim h [ inl i ↦ a i | inr i ↦ b i ]
none_long x y p a b c d e kind.Double h = c h
none_long x y p a b c d e kind.Single h = d h
none_long x y p a b c d e kind.Hexadecimal h = e h
none_long x y p a b c d e (kind.Byte w) (v, q) = cc

item_decided : (p : List ℕ) → IsSomeItem p ⊎ IsNone p
item_decided [] = inr none_empty
item_decided (x ∷ []) = elim (cases_Bool (white x)) [
  | inl w ↦ inl (kind.White, (x, w, refl))
  | inr w ↦ inl (kind.Byte x, (w, refl))
]
item_decided (x ∷ y ∷ p) = elim (begins_two_decided 47 47 in_line (x ∷ y ∷ p)) [
  | inl h ↦ inl (kind.Comment, inl h)
  | inr a ↦ elim (begins_two_decided 47 42 ends_comment (x ∷ y ∷ p)) [
    | inl h ↦ inl (kind.Comment, inr h)
    | inr b ↦ elim (begins_decided 34 (ends_quote mode.Double) (x ∷ y ∷ p)) [
      | inl h ↦ inl (kind.Double, h)
      | inr c ↦ elim (begins_decided 39 (ends_quote mode.Single) (x ∷ y ∷ p)) [
        | inl h ↦ inl (kind.Single, h)
        | inr d ↦ elim (begins_two_decided 92 60 (ends_quote mode.Angle) (x ∷ y ∷ p)) [
          | inl h ↦ inl (kind.Hexadecimal, h)
          | inr e ↦ inr (none_long x y p a b c d e)
        ]
      ]
    ]
  ]
]

abbrev NoneAbove : List ℕ → ℕ → Type 0
NoneAbove text m = (j : ItemKind) (i : ℕ) → m < i → i ≤ length text → IsItem j (take i text) → ⊥

record Found (text : List ℕ) : Type 0 where
  pub kind : ItemKind
  pub size : ℕ
  pub some : 0 < size
  pub longest : LongestItem text kind size

one_item : (x : ℕ) (r : List ℕ) → NoneAbove (x ∷ r) 0 → ⊥
one_item x r f = elim (item_decided (x ∷ [])) [
  | inl h ↦ f h.0 1 (omega arith) (omega arith) h.1
  | inr g ↦ elim (cases_Bool (white x)) [ inl w ↦ g kind.White (x, w, refl) | inr w ↦ g (kind.Byte x) (w, refl) ]
]

none_next : (text : List ℕ) (m : ℕ) → IsNone (take (suc m) text) → NoneAbove text (suc m) → NoneAbove text m
none_next text m g f j i l u h = elim (cases_eq i (suc m)) [
  | inl e ↦ g j (rw e at h)
  | inr e ↦ f j i (omega arith) u h
]

longest_below : (x : ℕ) (r : List ℕ) (m : ℕ) → m ≤ length (x ∷ r) → NoneAbove (x ∷ r) m → Found (x ∷ r)
longest_below x r zero l f = absurd (one_item x r f)
longest_below x r (suc m) l f = elim (item_decided (take (suc m) (x ∷ r))) [
  | inl h ↦ record { kind = h.0; size = suc m; some = omega arith; longest = record { within = l; form = h.1; longest = f } }
  | inr g ↦ longest_below x r m (omega arith) (none_next (x ∷ r) m g f)
]

items_within : (fuel : ℕ) (text : List ℕ) → length text ≤ fuel → (items : List Item) × AreItems text items
items_within fuel [] l = ([], ended)
items_within zero (x ∷ r) l = absurd (omega arith)
items_within (suc fuel) (x ∷ r) l =
    let g = longest_below x r (length (x ∷ r)) (omega arith) (λ j i a b h. absurd (omega arith)) in
    let z : 0 < g.size = g.some in
    let m = items_within fuel (drop g.size (x ∷ r)) (omega (arith, length-drop g.size (x ∷ r))) in
    (item g.kind (take g.size (x ∷ r)) ∷ m.0, next (x ∷ r) g.kind g.size m.0 g.longest m.1)

-- every text has items
pub items_of : (text : List ℕ) → (items : List Item) × AreItems text items
items_of text = items_within (length text) text (omega arith)

pub items_bytes : {text : List ℕ} {items : List Item} → AreItems text items → bytes_of items ≡ text
items_bytes ended = refl
items_bytes (next text k n items l a) = rw (items_bytes a) (take-append-drop n text)

value_none : (value : List ℕ → Option (List ℕ)) → ((name : List ℕ) → value name ≡ None) → (o : Option Formal) → value_by value o ≡ None
value_none value h None = refl
value_none value h (Some f) = rw (h f.name, value_by) refl

-- without values the bytes are unchanged
pub replaced_none : (value : List ℕ → Option (List ℕ)) → ((name : List ℕ) → value name ≡ None) → (items : List Item) → replaced value 0 items ≡ bytes_of items
unfolding replaced
replaced_none value h [] = refl
replaced_none value h (i ∷ items) = rw (value_none value h (formal_at (i ∷ items))) (ap (λ (bs : List ℕ). i.bytes ++ bs) (replaced_none value h items))
