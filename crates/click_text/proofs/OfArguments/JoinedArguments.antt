-- The arguments of a text, joined by commas, are the text up to white space and comments.
use Rattle.std.proofs.Common.{◌≡◌, ◌≢◌, ℕ, ◌+◌, ◌≤◌, List, [], ◌∷◌, ◌++◌, length, take, drop, true, false, eqb, refl, sym, ◌∙◌, ap, subst, arith, inl, inr, append_assoc, length-append, length-take, Some}
use Rattle.std.specs.Prelude.{if◌then◌else◌, ◌&&◌}
use Rattle.std.proofs.lemmas.Bool.{cases_Bool, and_parts}
use Rattle.std.proofs.lemmas.List.{append-nil, take-append-drop, take-append-le}
use Rattle.click_text.specs.declared.syntax.Span.{Span}
use Rattle.click_text.specs.declared.syntax.Ending.TheVariants as ending
use Rattle.click_text.specs.declared.items.ItemKind.{ItemKind}
use Rattle.click_text.specs.declared.items.ItemKind.TheVariants as kind
use Rattle.click_text.specs.declared.lexer.Piece.{Piece}
use Rattle.click_text.specs.declared.lexer.Piece.TheVariants as piece
use Rattle.click_text.specs.Pieces.{span, Longest, IsPiece, Reads, ends, passes, IsBlank}
use Rattle.click_text.specs.Items.{Item, item, IsItem, LongestItem, AreItems, ended, next, bytes_of, size, is_blank_item, parentheses_after, parted}
use Rattle.click_text.specs.Arguments.{is_comma, all_blank, front, without_back, argument_span, arguments_from, cut, AreArguments, SpansInOrder, AreJoined, last, more, IsTextOf}
use Rattle.click_text.proofs.OfPieces.FirstBytes.{family, begins, begins_as, kind_from}
use Rattle.click_text.proofs.OfItems.OneItemList.{items_are_text, bytes_of-append, size-append}
use Rattle.click_text.proofs.OfArguments.ArgumentCuts.{all_put, all_put-put, nothing_put, comma_form}

take_own : (a b : List ℕ) → take (length a) (a ++ b) ≡ a
take_own [] b = refl
take_own (x ∷ a) b = ap (λ r. x ∷ r) (take_own a b)

drop_own : (a b : List ℕ) → drop (length a) (a ++ b) ≡ b
drop_own [] b = refl
drop_own (x ∷ a) b = drop_own a b

-- the longest item of a text is also the longest of each prefix that contains it
longest_front : (p q : List ℕ) (k : ItemKind) (n : ℕ) → LongestItem (p ++ q) k n → n ≤ length p → LongestItem p k n
longest_front p q k n l h = record {
  within = h;
  form = rw (take-append-le n p q h) at l.form;
  longest = λ j m a b f. l.longest j m a (omega (arith, length-append p q)) (rw (take-append-le m p q b) f);
}

put_before : (a b c : List ℕ) (k : ItemKind) (items : List Item) → LongestItem (a ++ (b ++ c)) k (length a) → AreItems b items → AreItems (a ++ b) (item k a ∷ items)
put_before a b c k items l r =
    let g : LongestItem ((a ++ b) ++ c) k (length a) = rw append_assoc l in
    let f = longest_front (a ++ b) c k (length a) g (omega (arith, length-append a b)) in
    let s = next (a ++ b) k (length a) items f (rw drop_own r) in
    rw take_own at s

-- the first items of a text are the items of their own bytes, and so are the last ones
items_front : {text : List ℕ} {items : List Item} (p q : List Item) → AreItems text items → items ≡ p ++ q → AreItems (bytes_of p) p
items_front [] q r e = ended
items_front (i ∷ p) q ended e = cc
items_front (i ∷ p) q (next text k n items l r) e =
    let f : item k (take n text) ≡ i = cc in
    let g : items ≡ p ++ q = cc in
    let b : bytes_of p ++ bytes_of q ≡ drop n text = sym (bytes_of-append p q) ∙ ap bytes_of (sym g) ∙ items_are_text r in
    let t : take n text ++ (bytes_of p ++ bytes_of q) ≡ text = rw b (take-append-drop n text) in
    let w = l.within in
    let z : length (take n text) ≡ n = omega (arith, length-take n text) in
    rw (← f) (put_before (take n text) (bytes_of p) (bytes_of q) k p (rw (t, z) l) (items_front p q r g))

items_back : {text : List ℕ} {items : List Item} (p q : List Item) → AreItems text items → items ≡ p ++ q → AreItems (bytes_of q) q
items_back {text = text} {items = items} [] q r e = let f : bytes_of items ≡ text = items_are_text r in rw (← e, f) r
items_back (i ∷ p) q ended e = cc
items_back (i ∷ p) q (next text k n items l r) e = let g : items ≡ p ++ q = cc in items_back p q r g

-- the items are those of their own bytes
abbrev Own : List Item → Type 0
Own p = AreItems (bytes_of p) p

own_front : (p q : List Item) → Own (p ++ q) → Own p
own_front p q r = items_front p q r refl

own_back : (p q : List Item) → Own (p ++ q) → Own q
own_back p q r = items_back p q r refl

-- white space and comments as items are white space and comments as pieces
longest_piece : (text : List ℕ) (k : Piece) (i : ItemKind) (n : ℕ) → k ≢ piece.Word → family k ≡ k → LongestItem text i n → IsPiece k (take n text) → ((m : ℕ) → IsPiece k (take m text) → IsItem i (take m text)) → Longest text k n
longest_piece text k i n w f l p g =
    let b : begins text ≡ Some k = begins_as k text n p ∙ ap Some f in
    record { within = l.within; form = p; longest = λ j m h a q. l.longest i m h a (g m (kind_from k j text m b w q)) }

comment_reads : (at : ℕ) (text : List ℕ) (n : ℕ) → LongestItem text kind.Comment n → IsItem kind.Comment (take n text) → Reads (at + n) (drop n text) [] ending.Whole → Reads at text [] ending.Whole
comment_reads at text n l (inl p) r = passes at text [] ending.Whole piece.LineComment n (longest_piece text piece.LineComment kind.Comment n (λ w. cc) refl l p (λ m q. inl q)) refl r
comment_reads at text n l (inr p) r = passes at text [] ending.Whole piece.BlockComment n (longest_piece text piece.BlockComment kind.Comment n (λ w. cc) refl l p (λ m q. inr q)) refl r

blank_reads : {text : List ℕ} {items : List Item} (at : ℕ) → AreItems text items → all_blank items ≡ true → Reads at text [] ending.Whole
blank_reads at ended h = ends at
blank_reads at (next text kind.White n items l r) h =
    passes at text [] ending.Whole piece.Blank n (longest_piece text piece.Blank kind.White n (λ w. cc) refl l l.form (λ m q. q)) refl (blank_reads (at + n) r h)
blank_reads at (next text kind.Comment n items l r) h = comment_reads at text n l l.form (blank_reads (at + n) r h)
blank_reads at (next text kind.Double n items l r) h = cc
blank_reads at (next text kind.Single n items l r) h = cc
blank_reads at (next text kind.Hexadecimal n items l r) h = cc
blank_reads at (next text (kind.Byte b) n items l r) h = cc

-- the items of an argument after its front, and those at its back
abbrev after_front : List Item → List Item
after_front [] = []
after_front (i ∷ p) = if is_blank_item i then after_front p else i ∷ p

abbrev back : List Item → List Item
back [] = []
back (i ∷ p) = if all_blank (i ∷ p) then i ∷ p else back p

front_splits : (p : List Item) → front p ++ after_front p ≡ p
front_splits [] = refl
front_splits (i ∷ p) = elim (cases_Bool (is_blank_item i)) [
  | inl e ↦ rw (e, front_splits p) refl
  | inr e ↦ rw e refl
]

back_splits : (p : List Item) → without_back p ++ back p ≡ p
back_splits [] = refl
back_splits (i ∷ p) = elim (cases_Bool (all_blank (i ∷ p))) [
  | inl e ↦ rw e refl
  | inr e ↦ rw (e, back_splits p) refl
]

front_blank : (p : List Item) → all_blank (front p) ≡ true
front_blank [] = refl
front_blank (i ∷ p) = elim (cases_Bool (is_blank_item i)) [
  | inl e ↦ rw (e, front_blank p, e) refl
  | inr e ↦ rw e refl
]

back_blank : (p : List Item) → all_blank (back p) ≡ true
back_blank [] = refl
back_blank (i ∷ p) = elim (cases_Bool (all_blank (i ∷ p))) [
  | inl e ↦ rw e e
  | inr e ↦ rw (e, back_blank p) refl
]

front_of_most : (p : List Item) → all_blank p ≡ false → front (without_back p) ≡ front p
front_of_most [] h = cc
front_of_most (i ∷ p) h = elim (cases_Bool (is_blank_item i)) [
  | inl e ↦ let g : all_blank p ≡ false = rw e at h in rw (h, e, front_of_most p g) refl
  | inr e ↦ rw (h, e) refl
]

record Part (at : ℕ) (p : List Item) : Type 0 where
  before : List ℕ
  inside : List ℕ
  after : List ℕ
  blank_before : IsBlank before
  blank_after : IsBlank after
  bytes_are : bytes_of p ≡ before ++ (inside ++ after)
  stands : argument_span at p ≡ span (at + length before) (at + length before + length inside)

part : (at : ℕ) (p : List Item) → Own p → Part at p
part at p r = elim (cases_Bool (all_blank p)) [
  | inl e ↦ record {
    before = bytes_of p;
    inside = [];
    after = [];
    blank_before = blank_reads 0 r e;
    blank_after = ends 0;
    bytes_are = sym (append-nil (bytes_of p));
    stands = let z : at + size p + 0 ≡ at + size p = omega arith in rw (e, z) refl;
  }
  | inr e ↦
      let m = without_back p in
      let i = after_front m in
      let f : m ≡ front p ++ i = sym (front_splits m) ∙ ap (λ q. q ++ i) (front_of_most p e) in
      let g : p ≡ front p ++ (i ++ back p) = sym (back_splits p) ∙ ap (λ q. q ++ back p) f ∙ append_assoc (front p) i (back p) in
      let s : Own (front p ++ (i ++ back p)) = subst Own g r in
      let t : size m ≡ size (front p) + size i = ap size f ∙ size-append (front p) i in
      let z : at + size m ≡ at + size (front p) + size i = omega arith in
      record {
        before = bytes_of (front p);
        inside = bytes_of i;
        after = bytes_of (back p);
        blank_before = blank_reads 0 (own_front (front p) (i ++ back p) s) (front_blank p);
        blank_after = blank_reads 0 (own_back i (back p) (own_back (front p) (i ++ back p) s)) (back_blank p);
        bytes_are = ap bytes_of g ∙ bytes_of-append (front p) (i ++ back p) ∙ ap (λ b. bytes_of (front p) ++ b) (bytes_of-append i (back p));
        stands = rw (e, z) refl;
      }
]

joined_last : (at : ℕ) (p : List Item) → Own p → AreJoined at (bytes_of p) (argument_span at p ∷ [])
joined_last at p r = let h = part at p r in rw (h.stands, h.bytes_are) (last at h.before h.inside h.after h.blank_before h.blank_after)

joined_more : (at : ℕ) (p : List Item) (rest : List ℕ) (spans : List Span) → Own p → AreJoined (at + size p + 1) rest spans → AreJoined at (bytes_of p ++ 44 ∷ rest) (argument_span at p ∷ spans)
joined_more at p rest spans r s =
    let h = part at p r in
    let z : at + size p ≡ at + length h.before + length h.inside + length h.after = omega (arith, ap length h.bytes_are, length-append h.before (h.inside ++ h.after), length-append h.inside h.after) in
    rw (h.stands, h.bytes_are) (more at h.before h.inside h.after rest spans h.blank_before h.blank_after (rw z at s))

comma_bytes : {text : List ℕ} {items : List Item} (i : Item) (rest : List Item) → AreItems text items → items ≡ i ∷ rest → is_comma i.kind ≡ true → i.bytes ≡ 44 ∷ []
comma_bytes i rest ended e h = cc
comma_bytes i rest (next text k n items l r) e h =
    let f : item k (take n text) ≡ i = cc in
    let g : is_comma k ≡ true = ap (λ j. is_comma j.kind) f ∙ h in
    ap (λ j. j.bytes) (sym f) ∙ comma_form k (take n text) g l.form

joined_all : (items p : List Item) (at depth : ℕ) → Own (p ++ items) → AreJoined at (bytes_of (p ++ items)) (arguments_from at (all_put p (parted is_comma depth items)))
joined_all [] p at depth r = rw append-nil (joined_last at p (rw append-nil at r))
joined_all (i ∷ items) p at depth r = elim (cases_Bool (eqb depth 0 && is_comma i.kind)) [
  | inl e ↦
      let x = and_parts (eqb depth 0) (is_comma i.kind) e in
      let s = own_back p (i ∷ items) r in
      let b : i.bytes ≡ 44 ∷ [] = comma_bytes i items s refl x.1 in
      let t : Own items = own_back (i ∷ []) items s in
      let h : AreJoined (at + size p + 1) (bytes_of items) (arguments_from (at + size p + 1) (parted is_comma depth items)) = rw nothing_put at (joined_all items [] (at + size p + 1) depth t) in
      rw (e, append-nil p, bytes_of-append p (i ∷ items), b) (joined_more at p (bytes_of items) _ (own_front p (i ∷ items) r) h)
  | inr e ↦
      let a = append_assoc p (i ∷ []) items in
      let s : Own ((p ++ i ∷ []) ++ items) = rw a r in
      let h = joined_all items (p ++ i ∷ []) at (parentheses_after i.kind depth) s in
      rw (e, all_put-put) (rw a at h)
]

pub text_of : {text : List ℕ} {items : List Item} → AreItems text items → IsTextOf text (cut items)
text_of {text = text} {items = items} r = elim (cases_Bool (all_blank items)) [
  | inl e ↦ rw e (inl (blank_reads 0 r e, refl))
  | inr e ↦
      let t : bytes_of items ≡ text = items_are_text r in
      let o : Own items = rw t r in
      let h = joined_all items [] 0 0 o in
      let g : AreJoined 0 text (arguments_from 0 (parted is_comma 0 items)) = rw (nothing_put, t) at h in
      rw e (inr g)
]

sooner : (from later : ℕ) (spans : List Span) (to : ℕ) → from ≤ later → SpansInOrder later spans to → SpansInOrder from spans to
sooner from later [] to h o = tt
sooner from later (s ∷ spans) to h (a, b, c, d) = (omega arith, b, c, d)

-- joined spans are in order
joined_in_order : {at : ℕ} {text : List ℕ} {spans : List Span} (to : ℕ) → AreJoined at text spans → at + length text ≤ to → SpansInOrder at spans to
joined_in_order to (last at b i a p q) h =
    (omega arith, omega arith, omega (arith, length-append b (i ++ a), length-append i a), tt)
joined_in_order to (more at b i a rest spans p q r) h =
    let n = length-append (b ++ (i ++ a)) (44 ∷ rest) in
    let g = joined_in_order to r (omega (arith, n, length-append b (i ++ a), length-append i a)) in
    (omega arith, omega arith, omega (arith, n, length-append b (i ++ a), length-append i a), sooner _ _ spans to (omega arith) g)

text_in_order : (text : List ℕ) (spans : List Span) → IsTextOf text spans → SpansInOrder 0 spans (length text)
text_in_order text spans (inl (b, e)) = rw e tt
text_in_order text spans (inr j) = joined_in_order (length text) j (omega arith)

pub arguments_join : (text : List ℕ) (spans : List Span) → AreArguments text spans → IsTextOf text spans
arguments_join text spans a = rw a.cuts (text_of a.read)

pub arguments_order : (text : List ℕ) (spans : List Span) → AreArguments text spans → SpansInOrder 0 spans (length text)
arguments_order text spans a = text_in_order text spans (arguments_join text spans a)
