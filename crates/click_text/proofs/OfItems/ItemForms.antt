-- The item that begins a text, and its length.
use Rattle.std.proofs.Common.{◌≡◌, ◌≢◌, ℕ, zero, suc, ◌+◌, ◌<◌, ◌≤◌, List, [], ◌∷◌, ◌++◌, length, get_or, take, drop, true, false, eqb, Option, Some, None, refl, sym, ◌∙◌, subst, arith, inl, inr}
use Rattle.std.specs.Prelude.{if◌then◌else◌, ◌&&◌}
use Rattle.std.proofs.lemmas.Bool.{false≢true, cases_Bool, eqb-true, ne_eqb}
use Rattle.click_text.specs.declared.items.ItemKind.{ItemKind}
use Rattle.click_text.specs.declared.items.ItemKind.TheVariants as kind
use Rattle.click_text.specs.declared.lexer.Piece.{Piece}
use Rattle.click_text.specs.declared.lexer.Piece.TheVariants as piece
use Rattle.click_text.specs.declared.strings.Mode.{Mode}
use Rattle.click_text.specs.declared.strings.Mode.TheVariants as mode
use Rattle.click_text.specs.Strings.{mode_after}
use Rattle.click_text.specs.Pieces.{white, IsPiece, Longest, NoPiece}
use Rattle.click_text.specs.Items.{is_plain, ends_quote, IsItem, LongestItem}
use Rattle.click_text.specs.kept.LongItems.{NoLongItem}
use Rattle.click_text.proofs.OfPieces.FirstBytes.{family, begins, begins_as, alone}
use Rattle.click_text.proofs.OfPieces.WordForms.{front_splits}
use Rattle.click_text.proofs.OfPieces.LongestPiece.{as_one, as_two}
use Rattle.click_text.proofs.OfPieces.OnePieceList.{equal_by}

-- bytes that end a quote do not end it earlier
pub leaves_once : (m : Mode) (p : List ℕ) (y : ℕ) (ys : List ℕ) → ends_quote m p ≡ true → ends_quote m (p ++ y ∷ ys) ≡ false
leaves_once m [] y ys h = absurd (false≢true h)
leaves_once m (b ∷ []) y ys h = rw h refl
leaves_once m (b ∷ c ∷ p) y ys h = elim (cases_Bool (is_plain (mode_after m b))) [
  | inl e ↦ rw e refl
  | inr e ↦ let g : ends_quote (mode_after m b) (c ∷ p) ≡ true = rw e at h in rw e (leaves_once (mode_after m b) (c ∷ p) y ys g)
]

leaves_longer : (q : Mode) (r : List ℕ) (n m : ℕ) → ends_quote q (take n r) ≡ true → n < m → m ≤ length r → ends_quote q (take m r) ≡ true → ⊥
leaves_longer q r n m h l k g =
    let a : ends_quote q (take m r) ≡ false = rw (front_splits r n m l k) (leaves_once q (take n r) (get_or r n 0) (drop (n + 1) (take m r)) h) in
    false≢true (sym a ∙ g)

-- the kind of an item of several bytes that begins with these two bytes
abbrev pub long_of : ℕ → ℕ → Option ItemKind
long_of b c =
    if eqb b 47 then Some kind.Comment
    else if eqb b 34 then Some kind.Double
    else if eqb b 39 then Some kind.Single
    else if eqb b 92 && eqb c 60 then Some kind.Hexadecimal
    else None

long_pair : (j : ItemKind) (x y : ℕ) (r : List ℕ) → IsItem j (x ∷ y ∷ r) → long_of x y ≡ Some j
long_pair kind.White x y r (b, w, e) = cc
long_pair kind.Comment x y r (inl (q, e, a)) = let f : x ≡ 47 = cc in rw f refl
long_pair kind.Comment x y r (inr (q, e, a)) = let f : x ≡ 47 = cc in rw f refl
long_pair kind.Double x y r (q, e, a) = let f : x ≡ 34 = cc in rw f refl
long_pair kind.Single x y r (q, e, a) = let f : x ≡ 39 = cc in rw f refl
long_pair kind.Hexadecimal x y r (q, e, a) = let f : x ≡ 92 = cc in let g : y ≡ 60 = cc in rw (f, g) refl
long_pair (kind.Byte b) x y r (w, e) = cc

pub long_as : (text : List ℕ) (j : ItemKind) (m : ℕ) → 1 < m → m ≤ length text → IsItem j (take m text) → long_of (get_or text 0 0) (get_or text 1 0) ≡ Some j
long_as text j zero l k h = absurd (omega arith)
long_as text j (suc zero) l k h = absurd (omega arith)
long_as [] j (suc (suc m)) l k h = absurd (omega arith)
long_as (x ∷ []) j (suc (suc m)) l k h = absurd (omega arith)
long_as (x ∷ y ∷ r) j (suc (suc m)) l k h = long_pair j x y (take m r) h

pub no_long : (text : List ℕ) → long_of (get_or text 0 0) (get_or text 1 0) ≡ None → NoLongItem text
no_long text e j m l k h = let f = long_as text j m l k h in cc

-- no item is empty
pub no_bytes : (j : ItemKind) → IsItem j [] → ⊥
no_bytes kind.White (b, w, e) = cc
no_bytes kind.Comment (inl (q, e, a)) = cc
no_bytes kind.Comment (inr (q, e, a)) = cc
no_bytes kind.Double (q, e, a) = cc
no_bytes kind.Single (q, e, a) = cc
no_bytes kind.Hexadecimal (q, e, a) = cc
no_bytes (kind.Byte b) (w, e) = cc

-- the kind of an item of one byte
abbrev pub short_of : ℕ → ItemKind
short_of b = if white b then kind.White else kind.Byte b

no_leaving : (m : Mode) (r : List ℕ) → [] ≡ r → ends_quote m r ≡ true → ⊥
no_leaving m [] e h = false≢true h
no_leaving m (b ∷ r) e h = cc

pub short_as : (j : ItemKind) (x : ℕ) → IsItem j (x ∷ []) → short_of x ≡ j
short_as kind.White x (b, w, e) = let f : x ≡ b = cc in rw (f, w) refl
short_as kind.Comment x (inl (q, e, a)) = cc
short_as kind.Comment x (inr (q, e, a)) = cc
short_as kind.Double x (q, e, a) = let f : [] ≡ q = cc in absurd (no_leaving mode.Double q f a)
short_as kind.Single x (q, e, a) = let f : [] ≡ q = cc in absurd (no_leaving mode.Single q f a)
short_as kind.Hexadecimal x (q, e, a) = cc
short_as (kind.Byte b) x (w, e) = let f : x ≡ b = cc in rw (f, w) refl

pub short_form : (x : ℕ) → IsItem (short_of x) (x ∷ [])
short_form x = elim (cases_Bool (white x)) [
  | inl e ↦ rw e (x, e, refl)
  | inr e ↦ rw e (e, refl)
]

-- comments as items are comments as pieces
comment_piece : (text : List ℕ) (k : Piece) (n : ℕ) → get_or text 0 0 ≡ 47 → IsPiece k (take n text) → IsItem kind.Comment (take n text)
comment_piece text k n e h =
    let b = begins_as k text n h in
    elim (cases_Bool (eqb (get_or text 1 0) 47)) [
      | inl f ↦
          let d : begins text ≡ Some piece.LineComment = rw (e, f) refl in
          let g : family k ≡ piece.LineComment = cc in
          let i : k ≡ piece.LineComment = alone piece.LineComment k g (λ w. cc) in
          inl (rw i at h)
      | inr f ↦ elim (cases_Bool (eqb (get_or text 1 0) 42)) [
        | inl u ↦
            let d : begins text ≡ Some piece.BlockComment = rw (e, f, u) refl in
            let g : family k ≡ piece.BlockComment = cc in
            let i : k ≡ piece.BlockComment = alone piece.BlockComment k g (λ w. cc) in
            inr (rw i at h)
        | inr u ↦ let d : begins text ≡ None = rw (e, f, u) refl in cc
      ]
    ]

-- an item is the longest, if it has the kind that its first bytes determine and no longer one of
-- that kind begins the text
long_item_of : (text : List ℕ) (k : ItemKind) (n : ℕ) → long_of (get_or text 0 0) (get_or text 1 0) ≡ Some k → 0 < n → n ≤ length text → IsItem k (take n text) → ((m : ℕ) → n < m → m ≤ length text → IsItem k (take m text) → ⊥) → LongestItem text k n
long_item_of text k n b z l f g = record {
  within = l;
  form = f;
  longest = λ j m h i p. let e = long_as text j m (omega arith) i p in let d : j ≡ k = cc in g m h i (rw d at p);
}

no_item_of : (text : List ℕ) (k : ItemKind) → long_of (get_or text 0 0) (get_or text 1 0) ≡ Some k → ((m : ℕ) → 1 < m → m ≤ length text → IsItem k (take m text) → ⊥) → NoLongItem text
no_item_of text k b g = λ j m h i p. let e = long_as text j m h i p in let d : j ≡ k = cc in g m h i (rw d at p)

comment_longer : (text : List ℕ) (k : Piece) (n m : ℕ) → Longest text k n → n < m → m ≤ length text → IsItem kind.Comment (take m text) → ⊥
comment_longer text k n m l h i (inl p) = l.longest piece.LineComment m h i p
comment_longer text k n m l h i (inr p) = l.longest piece.BlockComment m h i p

pub comment_item : (text : List ℕ) (k : Piece) (n : ℕ) → get_or text 0 0 ≡ 47 → 0 < n → Longest text k n → LongestItem text kind.Comment n
comment_item text k n e z l =
    long_item_of text kind.Comment n (rw e refl) z l.within (comment_piece text k n e l.form) (λ m h i p. comment_longer text k n m l h i p)

no_comment_of : (text : List ℕ) (m : ℕ) → NoPiece text → m ≤ length text → IsItem kind.Comment (take m text) → ⊥
no_comment_of text m g i (inl p) = g piece.LineComment m i p
no_comment_of text m g i (inr p) = g piece.BlockComment m i p

pub no_comment_item : (text : List ℕ) → get_or text 0 0 ≡ 47 → NoPiece text → NoLongItem text
no_comment_item text e g = no_item_of text kind.Comment (rw e refl) (λ m h i p. no_comment_of text m g i p)

-- the longest item, if it is a quote
opened : (q : Mode) (b : ℕ) (r s : List ℕ) → b ∷ r ≡ b ∷ s → ends_quote q s ≡ true → ends_quote q r ≡ true
opened q b r s e h = let d : r ≡ s = cc in rw d h

double_longer : (r : List ℕ) (n m : ℕ) → ends_quote mode.Double (take n r) ≡ true → suc n < m → m ≤ length (34 ∷ r) → IsItem kind.Double (take m (34 ∷ r)) → ⊥
double_longer r n zero g h l p = omega arith
double_longer r n (suc m) g h l (s, e, a) = leaves_longer mode.Double r n m g (omega arith) (omega arith) (opened mode.Double 34 (take m r) s e a)

single_longer : (r : List ℕ) (n m : ℕ) → ends_quote mode.Single (take n r) ≡ true → suc n < m → m ≤ length (39 ∷ r) → IsItem kind.Single (take m (39 ∷ r)) → ⊥
single_longer r n zero g h l p = omega arith
single_longer r n (suc m) g h l (s, e, a) = leaves_longer mode.Single r n m g (omega arith) (omega arith) (opened mode.Single 39 (take m r) s e a)

angle_open : (r s : List ℕ) → 92 ∷ 60 ∷ r ≡ 92 ∷ 60 ∷ s → ends_quote mode.Angle s ≡ true → ends_quote mode.Angle r ≡ true
angle_open r s e h = let d : r ≡ s = cc in rw d h

angle_longer : (r : List ℕ) (n m : ℕ) → ends_quote mode.Angle (take n r) ≡ true → suc (suc n) < m → m ≤ length (92 ∷ 60 ∷ r) → IsItem kind.Hexadecimal (take m (92 ∷ 60 ∷ r)) → ⊥
angle_longer r n zero g h l p = omega arith
angle_longer r n (suc zero) g h l p = omega arith
angle_longer r n (suc (suc m)) g h l (s, e, a) = leaves_longer mode.Angle r n m g (omega arith) (omega arith) (angle_open (take m r) s e a)

pub double_item : (text : List ℕ) (n : ℕ) → 0 < length text → get_or text 0 0 ≡ 34 → n ≤ length (drop 1 text) → ends_quote mode.Double (take n (drop 1 text)) ≡ true → LongestItem text kind.Double (1 + n)
double_item text n z e l a =
    let r = drop 1 text in
    let s : 1 + n ≡ suc n = omega arith in
    rw s (subst (λ t. LongestItem t kind.Double (suc n)) (sym (as_one text 34 z e))
    (long_item_of (34 ∷ r) kind.Double (suc n) refl (omega arith) (omega arith) (take n r, refl, a) (λ m h i p. double_longer r n m a h i p)))

pub single_item : (text : List ℕ) (n : ℕ) → 0 < length text → get_or text 0 0 ≡ 39 → n ≤ length (drop 1 text) → ends_quote mode.Single (take n (drop 1 text)) ≡ true → LongestItem text kind.Single (1 + n)
single_item text n z e l a =
    let r = drop 1 text in
    let s : 1 + n ≡ suc n = omega arith in
    rw s (subst (λ t. LongestItem t kind.Single (suc n)) (sym (as_one text 39 z e))
    (long_item_of (39 ∷ r) kind.Single (suc n) refl (omega arith) (omega arith) (take n r, refl, a) (λ m h i p. single_longer r n m a h i p)))

pub angle_item : (text : List ℕ) (n : ℕ) → 1 < length text → get_or text 0 0 ≡ 92 → get_or text 1 0 ≡ 60 → n ≤ length (drop 2 text) → ends_quote mode.Angle (take n (drop 2 text)) ≡ true → LongestItem text kind.Hexadecimal (2 + n)
angle_item text n z e f l a =
    let r = drop 2 text in
    let s : 2 + n ≡ suc (suc n) = omega arith in
    rw s (subst (λ t. LongestItem t kind.Hexadecimal (suc (suc n))) (sym (as_two text 92 60 z e f))
    (long_item_of (92 ∷ 60 ∷ r) kind.Hexadecimal (suc (suc n)) refl (omega arith) (omega arith) (take n r, refl, a) (λ m h i p. angle_longer r n m a h i p)))

-- no prefix ends the quote
abbrev pub Never : Mode → List ℕ → Type 0
Never q r = (n : ℕ) → n ≤ length r → ends_quote q (take n r) ≡ false

never_double : (r : List ℕ) (m : ℕ) → Never mode.Double r → m ≤ length (34 ∷ r) → IsItem kind.Double (take m (34 ∷ r)) → ⊥
never_double r zero g l (s, e, a) = cc
never_double r (suc m) g l (s, e, a) = false≢true (sym (g m (omega arith)) ∙ opened mode.Double 34 (take m r) s e a)

never_single : (r : List ℕ) (m : ℕ) → Never mode.Single r → m ≤ length (39 ∷ r) → IsItem kind.Single (take m (39 ∷ r)) → ⊥
never_single r zero g l (s, e, a) = cc
never_single r (suc m) g l (s, e, a) = false≢true (sym (g m (omega arith)) ∙ opened mode.Single 39 (take m r) s e a)

never_angle : (r : List ℕ) (m : ℕ) → Never mode.Angle r → m ≤ length (92 ∷ 60 ∷ r) → IsItem kind.Hexadecimal (take m (92 ∷ 60 ∷ r)) → ⊥
never_angle r zero g l (s, e, a) = cc
never_angle r (suc zero) g l (s, e, a) = cc
never_angle r (suc (suc m)) g l (s, e, a) = false≢true (sym (g m (omega arith)) ∙ angle_open (take m r) s e a)

pub no_double : (text : List ℕ) → 0 < length text → get_or text 0 0 ≡ 34 → ((n : ℕ) → n ≤ length (drop 1 text) → ends_quote mode.Double (take n (drop 1 text)) ≡ false) → NoLongItem text
no_double text z e g =
    subst (λ t. NoLongItem t) (sym (as_one text 34 z e))
    (no_item_of (34 ∷ drop 1 text) kind.Double refl (λ m h i p. never_double (drop 1 text) m g i p))

pub no_single : (text : List ℕ) → 0 < length text → get_or text 0 0 ≡ 39 → ((n : ℕ) → n ≤ length (drop 1 text) → ends_quote mode.Single (take n (drop 1 text)) ≡ false) → NoLongItem text
no_single text z e g =
    subst (λ t. NoLongItem t) (sym (as_one text 39 z e))
    (no_item_of (39 ∷ drop 1 text) kind.Single refl (λ m h i p. never_single (drop 1 text) m g i p))

pub no_angle : (text : List ℕ) → 1 < length text → get_or text 0 0 ≡ 92 → get_or text 1 0 ≡ 60 → ((n : ℕ) → n ≤ length (drop 2 text) → ends_quote mode.Angle (take n (drop 2 text)) ≡ false) → NoLongItem text
no_angle text z e f g =
    subst (λ t. NoLongItem t) (sym (as_two text 92 60 z e f))
    (no_item_of (92 ∷ 60 ∷ drop 2 text) kind.Hexadecimal refl (λ m h i p. never_angle (drop 2 text) m g i p))

-- texts that begin with no item of more than one byte
pub no_angle_here : (text : List ℕ) → get_or text 0 0 ≡ 92 → get_or text 1 0 ≢ 60 → NoLongItem text
no_angle_here text e f = no_long text (rw (e, ne_eqb (get_or text 1 0) 60 f) refl)

pub no_long_here : (text : List ℕ) → get_or text 0 0 ≢ 47 → get_or text 0 0 ≢ 34 → get_or text 0 0 ≢ 39 → get_or text 0 0 ≢ 92 → NoLongItem text
no_long_here text a b c d =
    no_long text (rw (ne_eqb (get_or text 0 0) 47 a, ne_eqb (get_or text 0 0) 34 b, ne_eqb (get_or text 0 0) 39 c, ne_eqb (get_or text 0 0) 92 d) refl)

white_long : (b c : ℕ) → white b ≡ true → long_of b c ≡ None
white_long b c h = elim (cases_Bool (eqb b 47)) [
  | inl e ↦ let f = rw (eqb-true b 47 e) at h in cc
  | inr e ↦ elim (cases_Bool (eqb b 34)) [
    | inl f ↦ let g = rw (eqb-true b 34 f) at h in cc
    | inr f ↦ elim (cases_Bool (eqb b 39)) [
      | inl g ↦ let i = rw (eqb-true b 39 g) at h in cc
      | inr g ↦ elim (cases_Bool (eqb b 92)) [
        | inl i ↦ let j = rw (eqb-true b 92 i) at h in cc
        | inr i ↦ rw (e, f, g, i) refl
      ]
    ]
  ]
]

pub no_long_white : (text : List ℕ) → white (get_or text 0 0) ≡ true → NoLongItem text
no_long_white text h = no_long text (white_long (get_or text 0 0) (get_or text 1 0) h)

-- an item of one byte is the longest, if no longer one begins the text
pub short_item : (text : List ℕ) → 0 < length text → NoLongItem text → LongestItem text (short_of (get_or text 0 0)) 1
short_item [] z g = absurd (omega arith)
short_item (x ∷ r) z g = record { within = omega arith; form = short_form x; longest = λ j m h i p. g j m h i p }

pub white_item : (text : List ℕ) → 0 < length text → white (get_or text 0 0) ≡ true → LongestItem text kind.White 1
white_item text z h = let s = short_item text z (no_long_white text h) in rw h at s

pub byte_item : (text : List ℕ) → 0 < length text → white (get_or text 0 0) ≡ false → NoLongItem text → LongestItem text (kind.Byte (get_or text 0 0)) 1
byte_item text z h g = let s = short_item text z g in rw h at s

-- there is only one longest item
pub same_len : (text : List ℕ) (k j : ItemKind) (n m : ℕ) → LongestItem text k n → LongestItem text j m → n ≡ m
same_len text k j n m l r = equal_by n m (λ h. l.longest j m h r.within r.form) (λ h. r.longest k n h l.within l.form)

same_kind_by : (k j : ItemKind) (p : List ℕ) → IsItem k p → IsItem j p → k ≡ j
same_kind_by k j [] f g = absurd (no_bytes k f)
same_kind_by k j (x ∷ []) f g = sym (short_as k x f) ∙ short_as j x g
same_kind_by k j (x ∷ y ∷ p) f g = let a = long_pair k x y p f in let b = long_pair j x y p g in cc

pub same_kind : (text : List ℕ) (k j : ItemKind) (n m : ℕ) → LongestItem text k n → LongestItem text j m → k ≡ j
same_kind text k j n m l r =
    let e : n ≡ m = same_len text k j n m l r in
    same_kind_by k j (take n text) l.form (rw e r.form)
