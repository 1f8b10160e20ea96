-- The arguments of a text, read from the front.
use Rattle.std.proofs.Common.{◌≡◌, ℕ, ◌+◌, ◌-◌, ◌≤◌, List, [], ◌∷◌, ◌++◌, length, take, drop, Bool, true, false, eqb, Option, Some, None, refl, sym, ◌∙◌, ap, arith, inl, inr, append_assoc}
use Rattle.std.specs.Prelude.{if◌then◌else◌, ◌&&◌}
use Rattle.std.proofs.lemmas.Bool.{cases_Bool, and_parts, eqb-true}
use Rattle.std.proofs.lemmas.List.{append-nil}
use Rattle.click_text.specs.declared.syntax.Span.{Span}
use Rattle.click_text.specs.declared.items.ItemKind.{ItemKind}
use Rattle.click_text.specs.declared.items.ItemKind.TheVariants as kind
use Rattle.click_text.specs.Items.{Item, item, IsItem, LongestItem, size, is_blank_item, parentheses_after, put, parted}
use Rattle.click_text.specs.Arguments.{is_comma, all_blank, front, without_back, argument_span, arguments_from, cut, AreArguments}
use Rattle.click_text.specs.kept.PartialArgument.{found_or, grown_to, grown_argument}
use Rattle.click_text.proofs.OfItems.OneItemList.{IsDone, done_more, done_all, none_done, bytes_at, bytes_long, size-append, item_some}

-- the arguments from here on: f was found of the current one, and the items are left
abbrev pub rest_of : ℕ → ℕ → Option Span → List Item → List Span
rest_of at depth f [] = found_or f at ∷ []
rest_of at depth f (i ∷ items) =
    if eqb depth 0 && is_comma i.kind then found_or f at ∷ rest_of (at + 1) depth None items
    else rest_of (at + length i.bytes) (parentheses_after i.kind depth) (grown_argument f i.kind at (at + length i.bytes)) items

-- what is found of an argument with these items, which begin at offset `at`
abbrev pub found_in : ℕ → List Item → Option Span
found_in at p = if all_blank p then None else Some (argument_span at p)

found_argument : (at : ℕ) (p : List Item) → found_or (found_in at p) (at + size p) ≡ argument_span at p
found_argument at p = elim (cases_Bool (all_blank p)) [
  | inl e ↦ rw e refl
  | inr e ↦ rw e refl
]

blank_more : (p : List Item) (i : Item) → is_blank_item i ≡ true → all_blank (p ++ i ∷ []) ≡ all_blank p
blank_more [] i h = rw h refl
blank_more (j ∷ p) i h = rw (blank_more p i h) refl

solid_more : (p : List Item) (i : Item) → is_blank_item i ≡ false → all_blank (p ++ i ∷ []) ≡ false
solid_more [] i h = rw h refl
solid_more (j ∷ p) i h = rw (solid_more p i h) (elim (is_blank_item j) as (λ v. (v && false) ≡ false) [ true ↦ refl | false ↦ refl ])

front_same : (p : List Item) (i : Item) → all_blank p ≡ false → front (p ++ i ∷ []) ≡ front p
front_same [] i h = cc
front_same (j ∷ p) i h = elim (cases_Bool (is_blank_item j)) [
  | inl e ↦ let g : all_blank p ≡ false = rw e at h in rw (e, front_same p i g) refl
  | inr e ↦ rw e refl
]

front_solid : (p : List Item) (i : Item) → all_blank p ≡ true → is_blank_item i ≡ false → front (p ++ i ∷ []) ≡ p
front_solid [] i h g = rw g refl
front_solid (j ∷ p) i h g =
    let x = and_parts (is_blank_item j) (all_blank p) h in
    rw (x.0, front_solid p i x.1 g) refl

back_same : (p : List Item) (i : Item) → is_blank_item i ≡ true → without_back (p ++ i ∷ []) ≡ without_back p
back_same [] i h = rw h refl
back_same (j ∷ p) i h = rw (blank_more p i h, back_same p i h) refl

back_solid : (p : List Item) (i : Item) → is_blank_item i ≡ false → without_back (p ++ i ∷ []) ≡ p ++ i ∷ []
back_solid [] i h = rw h refl
back_solid (j ∷ p) i h = rw (solid_more (j ∷ p) i h, back_solid p i h) refl

-- what is found grows with each item
found_more : (at : ℕ) (p : List Item) (i : Item) → found_in at (p ++ i ∷ []) ≡ grown_argument (found_in at p) i.kind (at + size p) (at + size p + length i.bytes)
found_more at p i = elim (cases_Bool (is_blank_item i)) [
  | inl e ↦ elim (cases_Bool (all_blank p)) [
    | inl f ↦ rw (blank_more p i e, e, f) refl
    | inr f ↦ rw (blank_more p i e, e, f, front_same p i f, back_same p i e) refl
  ]
  | inr e ↦
      let s : at + size (p ++ i ∷ []) ≡ at + size p + length i.bytes = rw (size-append, append-nil) (omega arith) in
      elim (cases_Bool (all_blank p)) [
        | inl f ↦ rw (solid_more p i e, e, f, front_solid p i f e, back_solid p i e, s) refl
        | inr f ↦ rw (solid_more p i e, e, f, front_same p i f, back_solid p i e, s) refl
      ]
]

-- the lists of items, with the items p in front of the first of them
abbrev pub all_put : List Item → List (List Item) → List (List Item)
all_put p [] = p ∷ []
all_put p (q ∷ ps) = (p ++ q) ∷ ps

pub all_put-put : (p : List Item) (i : Item) (ps : List (List Item)) → all_put p (put i ps) ≡ all_put (p ++ i ∷ []) ps
all_put-put p i [] = refl
all_put-put p i (q ∷ ps) = rw (append_assoc p (i ∷ []) q) refl

pub nothing_put : (test : ItemKind → Bool) (depth : ℕ) (items : List Item) → all_put [] (parted test depth items) ≡ parted test depth items
nothing_put test depth [] = refl
nothing_put test depth (i ∷ items) = elim (cases_Bool (eqb depth 0 && test i.kind)) [
  | inl e ↦ rw e refl
  | inr e ↦ rw e (elim (parted test (parentheses_after i.kind depth) items) as (λ v. all_put [] (put i v) ≡ put i v) [ [] ↦ refl | q ∷ ps ↦ refl ])
]

rest_is : (items p : List Item) (from depth : ℕ) → rest_of (from + size p) depth (found_in from p) items ≡ arguments_from from (all_put p (parted is_comma depth items))
rest_is [] p from depth = rw (found_argument from p, append-nil) refl
rest_is (i ∷ items) p from depth = elim (cases_Bool (eqb depth 0 && is_comma i.kind)) [
  | inl e ↦
      let z : from + size p + 1 + size [] ≡ from + size p + 1 = omega arith in
      let h = rest_is items [] (from + size p + 1) depth in
      let g : rest_of (from + size p + 1) depth None items ≡ arguments_from (from + size p + 1) (parted is_comma depth items) = rw (z, nothing_put is_comma depth items) at h in
      rw (e, found_argument from p, append-nil, g) refl
  | inr e ↦
      let s : from + size (p ++ i ∷ []) ≡ from + size p + length i.bytes = rw (size-append, append-nil) (omega arith) in
      let h = rest_is items (p ++ i ∷ []) from (parentheses_after i.kind depth) in
      rw (e, all_put-put, ← h, found_more from p i, s) refl
]

-- the arguments of a text are `rest_of` all of its items
pub cut_is : (items : List Item) → cut items ≡ (if all_blank items then [] else rest_of 0 0 None items)
cut_is items =
    let h = rest_is items [] 0 0 in
    let g : rest_of 0 0 None items ≡ arguments_from 0 (parted is_comma 0 items) = rw nothing_put at h in
    rw g refl

-- The invariant of the loop: `spans` are the arguments that ended before offset `at`, and `found`
-- is what was found of the next one.
pub record Cutting (text : List ℕ) (at : ℕ) (depth : ℕ) (spans : List Span) (found : Option Span) : Type 0 where
  pub done : List Item
  pub is_done : IsDone text at done
  pub shallow : depth ≤ at
  pub goes_on : (items : List Item) → rest_of 0 0 None (done ++ items) ≡ spans ++ rest_of at depth found items
  pub blank : all_blank done ≡ true → (spans ≡ []) × (found ≡ None)
  pub solid : all_blank done ≡ false → spans ≡ [] → found ≡ None → ⊥

pub cutting_none : (text : List ℕ) → Cutting text 0 0 [] None
cutting_none text = record {
  done = [];
  is_done = none_done text;
  shallow = omega arith;
  goes_on = λ items. refl;
  blank = λ h. (refl, refl);
  solid = λ h e f. cc;
}

comma_solid : (k : ItemKind) (p : List ℕ) → is_comma k ≡ true → is_blank_item (item k p) ≡ false
comma_solid kind.White p h = cc
comma_solid kind.Comment p h = cc
comma_solid _ p h = refl

-- an item that is a comma is that byte
pub comma_form : (k : ItemKind) (p : List ℕ) → is_comma k ≡ true → IsItem k p → p ≡ 44 ∷ []
comma_form (kind.Byte b) p h (w, e) = rw (e, eqb-true b 44 h) refl
comma_form _ p h f = cc

pub depth_rises : (k : ItemKind) (depth : ℕ) → parentheses_after k depth ≤ depth + 1
depth_rises (kind.Byte b) depth = elim (cases_Bool (eqb b 40)) [
  | inl e ↦ rw e (omega arith)
  | inr e ↦ elim (cases_Bool (eqb b 41)) [
    | inl f ↦ rw (e, f) (omega arith)
    | inr f ↦ rw (e, f) (omega arith)
  ]
]
depth_rises _ depth = omega arith

grown_some : (f : Option Span) (a b : ℕ) → grown_to f a b ≡ None → ⊥
grown_some None a b h = cc
grown_some (Some s) a b h = cc

snoc_some : (spans : List Span) (s : Span) → spans ++ s ∷ [] ≡ [] → ⊥
snoc_some [] s h = cc
snoc_some (t ∷ spans) s h = cc

-- a test outside parentheses
pub both_false : (depth : ℕ) (b : Bool) → (depth ≡ 0 → b ≡ true → ⊥) → (eqb depth 0 && b) ≡ false
both_false depth b h = elim (cases_Bool (eqb depth 0 && b)) [
  | inl e ↦ let x = and_parts (eqb depth 0) b e in absurd (h (eqb-true depth 0 x.0) x.1)
  | inr e ↦ e
]

-- the step of a comma outside parentheses
pub cutting_comma : (text : List ℕ) (at depth : ℕ) (spans : List Span) (found : Option Span) (k : ItemKind) (n : ℕ) → LongestItem (take (length text - at) (drop at text)) k n → depth ≡ 0 → is_comma k ≡ true →
    Cutting text at depth spans found → Cutting text (at + n) depth (spans ++ found_or found at ∷ []) None
cutting_comma text at depth spans found k n l z h c =
    let i = item k (bytes_at text at n) in
    let b = solid_more c.done i (comma_solid k i.bytes h) in
    let o : n ≡ 1 = sym (bytes_long text at k n l) ∙ ap length (comma_form k i.bytes h l.form) in
    record {
      done = c.done ++ i ∷ [];
      is_done = done_more text at c.done k n l c.is_done;
      shallow = omega arith;
      goes_on = λ items.
          let g = c.goes_on (i ∷ items) in
          let s : rest_of at depth found (i ∷ items) ≡ found_or found at ∷ rest_of (at + n) depth None items = rw (z, h, o) refl in
          rw (append_assoc c.done (i ∷ []) items, g, s, append_assoc spans (found_or found at ∷ [])) refl;
      blank = λ e. cc;
      solid = λ e f. absurd (snoc_some spans (found_or found at) f);
    }

-- the step of any other item
pub cutting_more : (text : List ℕ) (at depth : ℕ) (spans : List Span) (found : Option Span) (k : ItemKind) (n : ℕ) → LongestItem (take (length text - at) (drop at text)) k n → (eqb depth 0 && is_comma k) ≡ false →
    Cutting text at depth spans found → Cutting text (at + n) (parentheses_after k depth) spans (grown_argument found k at (at + n))
cutting_more text at depth spans found k n l h c =
    let i = item k (bytes_at text at n) in
    let o : length i.bytes ≡ n = bytes_long text at k n l in
    record {
      done = c.done ++ i ∷ [];
      is_done = done_more text at c.done k n l c.is_done;
      shallow = omega (arith, depth_rises k depth, item_some _ k n l, c.shallow);
      goes_on = λ items.
          let g = c.goes_on (i ∷ items) in
          let s : rest_of at depth found (i ∷ items) ≡ rest_of (at + n) (parentheses_after k depth) (grown_argument found k at (at + n)) items = rw (h, o) refl in
          rw (append_assoc c.done (i ∷ []) items, g, s) refl;
      blank = λ e. elim (cases_Bool (is_blank_item i)) [
        | inl f ↦ let d = c.blank (sym (blank_more c.done i f) ∙ e) in (d.0, rw f d.1)
        | inr f ↦ let d = solid_more c.done i f in cc
      ];
      solid = λ e f g. elim (cases_Bool (is_blank_item i)) [
        | inl b ↦ c.solid (sym (blank_more c.done i b) ∙ e) f (rw b at g)
        | inr b ↦ grown_some found at (at + n) (rw b at g)
      ];
    }

-- the end, if the text is only white space and comments
pub cutting_blank : (text : List ℕ) (at depth : ℕ) (spans : List Span) (found : Option Span) → length text ≤ at → spans ≡ [] → found ≡ None → Cutting text at depth spans found → AreArguments text spans
cutting_blank text at depth spans found h e f c = record {
  items = c.done;
  read = done_all text at c.done h c.is_done;
  cuts = elim (cases_Bool (all_blank c.done)) [
    | inl b ↦ rw b e
    | inr b ↦ absurd (c.solid b e f)
  ];
}

pub cutting_all : (text : List ℕ) (at depth : ℕ) (spans : List Span) (found : Option Span) → length text ≤ at → (spans ≡ [] → found ≡ None → ⊥) → Cutting text at depth spans found → AreArguments text (spans ++ found_or found at ∷ [])
cutting_all text at depth spans found h s c = record {
  items = c.done;
  read = done_all text at c.done h c.is_done;
  cuts = elim (cases_Bool (all_blank c.done)) [
    | inl b ↦ let d = c.blank b in absurd (s d.0 d.1)
    | inr b ↦ let g = c.goes_on [] in let i : rest_of 0 0 None c.done ≡ spans ++ found_or found at ∷ [] = rw append-nil at g in sym (cut_is c.done ∙ rw b i)
  ];
}
