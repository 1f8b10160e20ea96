-- Reading one piece at the beginning of a text.
use Rattle.std.proofs.Common.{◌≡◌, ℕ, suc, ◌+◌, ◌-◌, ◌<◌, List, [], ◌∷◌, ◌++◌, length, get_or, take, drop, Bool, true, false, ◌&&◌, eqb, Some, refl, sym, ◌∙◌, subst, arith, length-append}
use Rattle.std.specs.Prelude.{decimal, nat_lt}
use Rattle.std.specs.List.{list_all}
use Rattle.std.specs.Fmt.{digits}
use Rattle.std.proofs.lemmas.Bool.{false≢true, and_parts, eqb-true, eq-eqb, ltb-true, lt-ltb, agree_below_at}
use Rattle.std.proofs.lemmas.Bool.Decides.{nat_tests}
use Rattle.std.proofs.lemmas.List.{take_at, drop_at, drop-drop}
use Rattle.click_text.specs.declared.syntax.Token.{Token}
use Rattle.click_text.specs.declared.syntax.Token.TheVariants as token
use Rattle.click_text.specs.declared.syntax.Ending.TheVariants as ending
use Rattle.click_text.specs.declared.lexer.Piece.{Piece}
use Rattle.click_text.specs.declared.lexer.Piece.TheVariants as piece
use Rattle.click_text.specs.declared.strings.Mode.TheVariants as mode
use Rattle.click_text.specs.Strings.{closes}
use Rattle.click_text.specs.Spans.{bytes_at}
use Rattle.click_base.specs.Numbers.{digit}
use Rattle.click_text.specs.Pieces.{white, word_byte, is_word, IsPiece, Longest, span, decimal_after, port_spelled, Reads, passes, takes}
use Rattle.click_text.proofs.OfPieces.FirstBytes.{family, word_first, word_form}
use Rattle.click_text.proofs.OfPieces.WordForms.{word_most}
use Rattle.click_text.proofs.OfPieces.LongestPiece.{longest_blank, longest_mark, longest_colons, longest_arrow, longest_word, longest_string}

-- no word continues with these bytes
abbrev pub Stops : List ℕ → Type 0
Stops r = (word_byte (get_or r 0 0) ≡ false) × (eqb (get_or r 0 0) 47 ≡ false)

word_not_white : (b : ℕ) → word_byte b ≡ true → white b ≡ false
word_not_white b h = grind (arith, nat_tests)

first_of : (p r : List ℕ) → 0 < length p → get_or (p ++ r) 0 0 ≡ get_or p 0 0
first_of [] r z = absurd (omega arith)
first_of (x ∷ p) r z = refl

behind_first : (p r : List ℕ) → get_or (p ++ r) (length p) 0 ≡ get_or r 0 0
behind_first [] r = refl
behind_first (x ∷ p) r = behind_first p r

pub front_of : (p r : List ℕ) → take (length p) (p ++ r) ≡ p
front_of p r = take_at p r (length p) refl

pub rest_of : (p r : List ℕ) → drop (length p) (p ++ r) ≡ r
rest_of p r = drop_at p r (length p) refl

some_word : (p : List ℕ) → is_word p ≡ true → 0 < length p
some_word [] h = absurd (false≢true h)
some_word (x ∷ p) h = omega arith

no_slash : (b : ℕ) → eqb b 47 ≡ false → b ≡ 47 → ⊥
no_slash b h e = false≢true (sym h ∙ eq-eqb b 47 e)

longest_front : (k : Piece) (p r : List ℕ) → family k ≡ piece.Word → IsPiece k p → Stops r → Longest (p ++ r) k (length p)
longest_front k p r f h s =
    let w = word_form k p f h in
    let z : 0 < length p = some_word p w in
    let b : word_byte (get_or (p ++ r) 0 0) ≡ true = rw (first_of p r z) (word_first p w) in
    let g : get_or (p ++ r) (length p) 0 ≡ get_or r 0 0 = behind_first p r in
    let i : word_byte (get_or (p ++ r) (length p) 0) ≡ false = rw g s.0 in
    let j : is_word (take (length p) (p ++ r)) ≡ true = rw (front_of p r) w in
    longest_word (p ++ r) k (length p) (word_not_white (get_or (p ++ r) 0 0) b) b (omega (arith, length-append p r)) (rw (front_of p r) h)
    (word_most (p ++ r) (length p) j i (λ e. absurd (no_slash (get_or r 0 0) s.1 (sym g ∙ e))))

pub read_word : (at : ℕ) (p r : List ℕ) (ts : List Token) → IsPiece piece.Word p → Stops r → Reads (at + length p) r ts ending.Whole →
    Reads at (p ++ r) (token.Word (span at (at + length p)) ∷ ts) ending.Whole
read_word at p r ts h s m =
    takes at (p ++ r) ts ending.Whole piece.Word (length p) (token.Word (span at (at + length p))) (longest_front piece.Word p r refl h s) refl (rw (rest_of p r) m)

pub read_require : (at : ℕ) (p r : List ℕ) (ts : List Token) → IsPiece piece.Require p → Stops r → Reads (at + length p) r ts ending.Whole →
    Reads at (p ++ r) (token.Require (span at (at + length p)) ∷ ts) ending.Whole
read_require at p r ts h s m =
    takes at (p ++ r) ts ending.Whole piece.Require (length p) (token.Require (span at (at + length p))) (longest_front piece.Require p r refl h s) refl (rw (rest_of p r) m)

pub read_number : (at : ℕ) (p r : List ℕ) (ts : List Token) (n : ℕ) → IsPiece piece.Number p → port_spelled p ≡ Some n → Stops r → Reads (at + length p) r ts ending.Whole →
    Reads at (p ++ r) (token.Number (Some n) (span at (at + length p)) ∷ ts) ending.Whole
read_number at p r ts n h e s m =
    takes at (p ++ r) ts ending.Whole piece.Number (length p) (token.Number (Some n) (span at (at + length p))) (longest_front piece.Number p r refl h s) (rw (front_of p r, e) refl) (rw (rest_of p r) m)

pub read_string : (at : ℕ) (p r : List ℕ) (ts : List Token) → closes mode.Plain 1 p ≡ true → Reads (at + suc (length p)) r ts ending.Whole →
    Reads at (40 ∷ (p ++ r)) (token.String (span at (at + suc (length p))) ∷ ts) ending.Whole
read_string at p r ts h m =
    let text = 40 ∷ (p ++ r) in
    let n = length p in
    let s : 1 + n ≡ suc n = omega arith in
    let L : ℕ → Type 0 = λ i. Longest text piece.String i in
    let l : Longest text piece.String (suc n) = subst L s (longest_string text n (omega arith) refl (omega (arith, length-append p r)) (rw (front_of p r) h)) in
    takes at text ts ending.Whole piece.String (suc n) (token.String (span at (at + suc n))) l refl (rw (rest_of p r) m)

pub read_blank : (at b : ℕ) (r : List ℕ) (ts : List Token) → white b ≡ true → Reads (at + 1) r ts ending.Whole → Reads at (b ∷ r) ts ending.Whole
read_blank at b r ts w m = passes at (b ∷ r) ts ending.Whole piece.Blank 1 (longest_blank (b ∷ r) (omega arith) w) refl m

pub read_semicolon : (at : ℕ) (r : List ℕ) (ts : List Token) → Reads (at + 1) r ts ending.Whole → Reads at (59 ∷ r) (token.Semicolon (span at (at + 1)) ∷ ts) ending.Whole
read_semicolon at r ts m = takes at (59 ∷ r) ts ending.Whole piece.Semicolon 1 (token.Semicolon (span at (at + 1))) (longest_mark (59 ∷ r) piece.Semicolon (omega arith) refl refl refl) refl m

pub read_open : (at : ℕ) (r : List ℕ) (ts : List Token) → Reads (at + 1) r ts ending.Whole → Reads at (91 ∷ r) (token.OpenBracket (span at (at + 1)) ∷ ts) ending.Whole
read_open at r ts m = takes at (91 ∷ r) ts ending.Whole piece.OpenBracket 1 (token.OpenBracket (span at (at + 1))) (longest_mark (91 ∷ r) piece.OpenBracket (omega arith) refl refl refl) refl m

pub read_close : (at : ℕ) (r : List ℕ) (ts : List Token) → Reads (at + 1) r ts ending.Whole → Reads at (93 ∷ r) (token.CloseBracket (span at (at + 1)) ∷ ts) ending.Whole
read_close at r ts m = takes at (93 ∷ r) ts ending.Whole piece.CloseBracket 1 (token.CloseBracket (span at (at + 1))) (longest_mark (93 ∷ r) piece.CloseBracket (omega arith) refl refl refl) refl m

pub read_colons : (at : ℕ) (r : List ℕ) (ts : List Token) → Reads (at + 2) r ts ending.Whole → Reads at (58 ∷ 58 ∷ r) (token.DoubleColon (span at (at + 2)) ∷ ts) ending.Whole
read_colons at r ts m = takes at (58 ∷ 58 ∷ r) ts ending.Whole piece.DoubleColon 2 (token.DoubleColon (span at (at + 2))) (longest_colons (58 ∷ 58 ∷ r) (omega arith) refl refl) refl m

pub read_arrow : (at : ℕ) (r : List ℕ) (ts : List Token) → Reads (at + 2) r ts ending.Whole → Reads at (45 ∷ 62 ∷ r) (token.Arrow (span at (at + 2)) ∷ ts) ending.Whole
read_arrow at r ts m = takes at (45 ∷ 62 ∷ r) ts ending.Whole piece.Arrow 2 (token.Arrow (span at (at + 2))) (longest_arrow (45 ∷ 62 ∷ r) (omega arith) refl refl) refl m

-- the digits of a port
abbrev IsSpelt : ℕ → Bool
IsSpelt n = eqb (decimal_after 0 (decimal n)) n && (list_all digit (decimal n) && nat_lt 0 (length (decimal n)))

spelt : (n : ℕ) → n < 256 → IsSpelt n ≡ true
unfolding digits
spelt n h = agree_below_at IsSpelt (λ (m : ℕ). true) 256 n refl h

pub port_digits : (n : ℕ) → n < 256 → IsPiece piece.Number (decimal n)
port_digits n h =
    let a = and_parts (eqb (decimal_after 0 (decimal n)) n) (list_all digit (decimal n) && nat_lt 0 (length (decimal n))) (spelt n h) in
    let b = and_parts (list_all digit (decimal n)) (nat_lt 0 (length (decimal n))) a.1 in
    (ltb-true 0 (length (decimal n)) b.1, b.0)

pub port_of_digits : (n : ℕ) → n < 256 → port_spelled (decimal n) ≡ Some n
port_of_digits n h =
    let a = and_parts (eqb (decimal_after 0 (decimal n)) n) (list_all digit (decimal n) && nat_lt 0 (length (decimal n))) (spelt n h) in
    let e : decimal_after 0 (decimal n) ≡ n = eqb-true (decimal_after 0 (decimal n)) n a.0 in
    rw (e, lt-ltb n 256 h) refl

-- the text after a part
pub behind : (text : List ℕ) (at : ℕ) (p r : List ℕ) → drop at text ≡ p ++ r → drop (at + length p) text ≡ r
behind text at p r e = sym (drop-drop (length p) at text) ∙ rw e (rest_of p r)

pub bytes_front : (text : List ℕ) (at : ℕ) (p r : List ℕ) → drop at text ≡ p ++ r → bytes_at text (span at (at + length p)) ≡ p
bytes_front text at p r e =
    let n : at + length p - at ≡ length p = omega arith in
    rw (n, e) (front_of p r)
