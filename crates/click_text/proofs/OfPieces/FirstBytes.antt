-- The first two bytes of a piece determine its kind, except for the kinds that consist of word
-- bytes.
use Rattle.std.proofs.Common.{◌≡◌, ◌≢◌, ℕ, ◌<◌, List, [], ◌∷◌, ◌++◌, length, get_or, take, drop, true, false, ◌&&◌, eqb, Option, Some, None, refl, sym, arith}
use Rattle.std.specs.Prelude.{if◌then◌else◌}
use Rattle.std.specs.List.{list_all}
use Rattle.std.specs.Option.{option_or}
use Rattle.std.proofs.lemmas.Bool.{false≢true, and_parts}
use Rattle.std.proofs.lemmas.Bool.Decides.{nat_tests}
use Rattle.std.proofs.lemmas.List.{take-append-drop}
use Rattle.click_base.specs.Numbers.{digit}
use Rattle.click_text.specs.declared.lexer.Piece.{Piece}
use Rattle.click_text.specs.declared.lexer.Piece.TheVariants as piece
use Rattle.click_text.specs.kept.SingleBytePieces.{mark_of}
use Rattle.click_text.specs.Pieces.{white, word_byte, is_word, IsPiece, NoPiece}

-- `Word` for each kind that consists of word bytes; any other kind unchanged
abbrev pub family : Piece → Piece
family piece.Number = piece.Word
family piece.Elementclass = piece.Word
family piece.Require = piece.Word
family k = k

-- the family of the pieces that begin with these two bytes
abbrev pub pair_of : ℕ → ℕ → Option Piece
pair_of b c =
    if eqb b 47 then (if eqb c 47 then Some piece.LineComment else if eqb c 42 then Some piece.BlockComment else None)
    else if eqb b 36 then Some piece.Formal
    else if eqb b 40 then Some piece.String
    else if eqb b 58 then (if eqb c 58 then Some piece.DoubleColon else None)
    else if eqb b 45 then (if eqb c 62 then Some piece.Arrow else None)
    else None

abbrev pub begin_of : ℕ → ℕ → Option Piece
begin_of b c =
    if white b then Some piece.Blank
    else if word_byte b then Some piece.Word
    else option_or (mark_of b) (pair_of b c)

abbrev pub begins : List ℕ → Option Piece
begins text = begin_of (get_or text 0 0) (get_or text 1 0)

disjoint : (b : ℕ) → word_byte b ≡ true → white b ≡ false
disjoint b h = grind (arith, nat_tests)

digit_word : (b : ℕ) → digit b ≡ true → word_byte b ≡ true
digit_word b h = grind (arith, nat_tests)

digit_slash : (b : ℕ) → digit b ≡ true → eqb b 47 ≡ false
digit_slash b h = grind (arith, nat_tests)

pub word_slash : (b : ℕ) → word_byte b ≡ true → eqb b 47 ≡ false
word_slash b h = grind (arith, nat_tests)

digits_word : (p : List ℕ) → 0 < length p → list_all digit p ≡ true → is_word p ≡ true
digits_word [] h a = absurd (omega arith)
digits_word (b ∷ []) h a = digit_word b (and_parts (digit b) true a).0
digits_word (b ∷ c ∷ p) h a =
    let x = and_parts (digit b) (digit c && list_all digit p) a in
    let y = and_parts (digit c) (list_all digit p) x.1 in
    rw (digit_word b x.0, digit_slash c y.0) (digits_word (c ∷ p) (omega arith) x.1)

-- each piece that consists of word bytes has the form of a word
pub word_form : (k : Piece) (p : List ℕ) → family k ≡ piece.Word → IsPiece k p → is_word p ≡ true
word_form piece.Word p f h = h.0
word_form piece.Number p f h = digits_word p h.0 h.1
word_form piece.Elementclass p f h = rw h refl
word_form piece.Require p f h = rw h refl
word_form _ p f h = cc

pub word_first : (p : List ℕ) → is_word p ≡ true → word_byte (get_or p 0 0) ≡ true
word_first [] h = absurd (false≢true h)
word_first (b ∷ []) h = h
word_first (b ∷ c ∷ p) h = (and_parts (word_byte b) (if eqb c 47 then is_word p else is_word (c ∷ p)) h).0

word_begins : (p q : List ℕ) → is_word p ≡ true → begins (p ++ q) ≡ Some piece.Word
word_begins [] q h = absurd (false≢true h)
word_begins (b ∷ p) q h = let w : word_byte b ≡ true = word_first (b ∷ p) h in rw (disjoint b w, w) refl

begins_append : (k : Piece) (p q : List ℕ) → IsPiece k p → begins (p ++ q) ≡ Some (family k)
begins_append piece.Blank p q (b, w, e) = rw (e, w) refl
begins_append piece.LineComment p q (r, e, a) = rw e refl
begins_append piece.BlockComment p q (r, e, a) = rw e refl
begins_append piece.Word p q h = word_begins p q h.0
begins_append piece.Number p q h = word_begins p q (digits_word p h.0 h.1)
begins_append piece.Formal p q (r, e, a) = rw e refl
begins_append piece.String p q (r, e, a) = rw e refl
begins_append _ p q e = rw e refl

-- a text that begins with a piece begins with the same bytes as the piece
pub begins_as : (k : Piece) (text : List ℕ) (m : ℕ) → IsPiece k (take m text) → begins text ≡ Some (family k)
begins_as k text m h = let e = begins_append k (take m text) (drop m text) h in rw take-append-drop at e

pub no_piece : (text : List ℕ) → begins text ≡ None → NoPiece text
no_piece text n k m l h = let e = begins_as k text m h in cc

-- outside the family of words, the family is the kind
pub alone : (k j : Piece) → family j ≡ k → k ≢ piece.Word → j ≡ k
alone k piece.Number e n = absurd (n (sym e))
alone k piece.Elementclass e n = absurd (n (sym e))
alone k piece.Require e n = absurd (n (sym e))
alone k j e n = e

pub kind_from : (k j : Piece) (text : List ℕ) (m : ℕ) → begins text ≡ Some k → k ≢ piece.Word → IsPiece j (take m text) → IsPiece k (take m text)
kind_from k j text m b n h =
    let e = begins_as j text m h in
    let f : family j ≡ k = cc in
    let g : j ≡ k = alone k j f n in
    rw g at h
