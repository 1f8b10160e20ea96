-- A text as a list of pieces, each the longest that begins at its offset (Click manual, "Lexical
-- structure"). A piece is white space, a comment or a token.
use Rattle.std.specs.Prelude.{◌≡◌, ◌≢◌, ℕ, ◌+◌, ◌*◌, ◌-◌, ◌<◌, ◌≤◌, List, [], ◌∷◌, length, take, drop, Bool, true, false, ◌||◌, ◌&&◌, eqb, leb, nat_lt, codes, Option, Some, None, if◌then◌else◌}
use Rattle.std.specs.List.{list_all}
use Rattle.click_base.specs.Numbers.{digit}
use Rattle.click_text.specs.declared.syntax.Span.{Span}
use Rattle.click_text.specs.declared.syntax.Token.{Token}
use Rattle.click_text.specs.declared.syntax.Token.TheVariants as token
use Rattle.click_text.specs.declared.syntax.FaultKind.TheVariants as kind
use Rattle.click_text.specs.declared.syntax.Ending.{Ending}
use Rattle.click_text.specs.declared.syntax.Ending.TheVariants as ending
use Rattle.click_text.specs.declared.lexer.Piece.{Piece}
use Rattle.click_text.specs.declared.lexer.Piece.TheVariants as piece
use Rattle.click_text.specs.declared.strings.Mode.TheVariants as mode
use Rattle.click_text.specs.Strings.{closes}
use Rattle.click_text.specs.Faults.{fault}

-- space, tab, LF, vertical tab, form feed, CR
abbrev pub white : ℕ → Bool
white b = eqb b 32 || (leb 9 b && leb b 13)

-- a digit, a letter or `_`
abbrev pub name_byte : ℕ → Bool
name_byte b = digit b || (leb 65 b && leb b 90) || (leb 97 b && leb b 122) || eqb b 95

-- a name byte or `@`
abbrev pub word_byte : ℕ → Bool
word_byte b = name_byte b || eqb b 64

-- word bytes, with a single `/` between two runs of them
abbrev pub is_word : List ℕ → Bool
is_word [] = false
is_word (b ∷ []) = word_byte b
is_word (b ∷ c ∷ p) = word_byte b && (if eqb c 47 then is_word p else is_word (c ∷ p))

-- the last two bytes are `*/`, and no two before them are
abbrev pub ends_comment : List ℕ → Bool
ends_comment [] = false
ends_comment (b ∷ []) = false
ends_comment (b ∷ c ∷ []) = eqb b 42 && eqb c 47
ends_comment (b ∷ c ∷ p) = if eqb b 42 && eqb c 47 then false else ends_comment (c ∷ p)

abbrev pub IsRun : List ℕ → Bool → Type 0
IsRun p test = (0 < length p) × (test ≡ true)

-- the bytes are a piece of that kind
abbrev pub IsPiece : Piece → List ℕ → Type 0
IsPiece piece.Blank p = (b : ℕ) × (white b ≡ true) × (p ≡ b ∷ [])
-- `//`, and no LF
IsPiece piece.LineComment p = (r : List ℕ) × (p ≡ 47 ∷ 47 ∷ r) × (list_all (λ b. if eqb b 10 then false else true) r ≡ true)
-- `/*`, up to the next `*/`
IsPiece piece.BlockComment p = (r : List ℕ) × (p ≡ 47 ∷ 42 ∷ r) × (ends_comment r ≡ true)
IsPiece piece.Word p = (is_word p ≡ true) × (list_all digit p ≡ false) × (p ≢ codes "elementclass") × (p ≢ codes "require")
IsPiece piece.Number p = IsRun p (list_all digit p)
IsPiece piece.Elementclass p = p ≡ codes "elementclass"
IsPiece piece.Require p = p ≡ codes "require"
-- `$` and a name
IsPiece piece.Formal p = (r : List ℕ) × (p ≡ 36 ∷ r) × IsRun r (list_all name_byte r)
-- `(` up to the `)` that closes it
IsPiece piece.String p = (r : List ℕ) × (p ≡ 40 ∷ r) × (closes mode.Plain 1 r ≡ true)
IsPiece piece.DoubleColon p = p ≡ codes "::"
IsPiece piece.Arrow p = p ≡ codes "->"
IsPiece piece.Semicolon p = p ≡ codes ";"
IsPiece piece.Comma p = p ≡ codes ","
IsPiece piece.OpenBracket p = p ≡ codes "["
IsPiece piece.CloseBracket p = p ≡ codes "]"
IsPiece piece.Open p = p ≡ codes "{"
IsPiece piece.Close p = p ≡ codes "}"
IsPiece piece.Bar p = p ≡ codes "|"

-- the longest piece that begins the text has n bytes and that kind
pub record Longest (text : List ℕ) (k : Piece) (n : ℕ) : Type 0 where
  pub within : n ≤ length text
  pub form : IsPiece k (take n text)
  pub longest : (j : Piece) (m : ℕ) → n < m → m ≤ length text → IsPiece j (take m text) → ⊥

-- no piece begins the text
abbrev pub NoPiece : List ℕ → Type 0
NoPiece text = (k : Piece) (m : ℕ) → m ≤ length text → IsPiece k (take m text) → ⊥

-- the number that digits spell, if n was read before them
abbrev pub decimal_after : ℕ → List ℕ → ℕ
decimal_after n [] = n
decimal_after n (d ∷ ds) = decimal_after (10 * n + (d - 48)) ds

-- the port that digits spell: 0 to 255, with leading zeros allowed
abbrev pub port_spelled : List ℕ → Option ℕ
port_spelled digits = if nat_lt (decimal_after 0 digits) 256 then Some (decimal_after 0 digits) else None

-- the token of a piece with these bytes and this span; white space and comments have none
abbrev pub token_of : Piece → List ℕ → Span → Option Token
token_of piece.Blank p s = None
token_of piece.LineComment p s = None
token_of piece.BlockComment p s = None
token_of piece.Word p s = Some (token.Word s)
token_of piece.Number p s = Some (token.Number (port_spelled p) s)
token_of piece.Elementclass p s = Some (token.Elementclass s)
token_of piece.Require p s = Some (token.Require s)
token_of piece.Formal p s = Some (token.Formal s)
token_of piece.String p s = Some (token.String s)
token_of piece.DoubleColon p s = Some (token.DoubleColon s)
token_of piece.Arrow p s = Some (token.Arrow s)
token_of piece.Semicolon p s = Some (token.Semicolon s)
token_of piece.Comma p s = Some (token.Comma s)
token_of piece.OpenBracket p s = Some (token.OpenBracket s)
token_of piece.CloseBracket p s = Some (token.CloseBracket s)
token_of piece.Open p s = Some (token.Open s)
token_of piece.Close p s = Some (token.Close s)
token_of piece.Bar p s = Some (token.Bar s)

abbrev pub span : ℕ → ℕ → Span
span a b = record { start = a; end = b }

abbrev pub begins_comment : List ℕ → Bool
begins_comment (b ∷ c ∷ text) = eqb b 47 && eqb c 42
begins_comment _ = false

abbrev pub begins_string : List ℕ → Bool
begins_string (b ∷ text) = eqb b 40
begins_string _ = false

-- The fault at offset `at`, if this text is left and no piece begins it: a comment or a string
-- that is not closed, or else a bad byte.
abbrev pub piece_fault : ℕ → List ℕ → Ending
piece_fault at text =
    if begins_comment text then ending.Stuck (fault kind.UnclosedComment at (at + length text))
    else if begins_string text then ending.Stuck (fault kind.UnclosedString at (at + length text))
    else ending.Stuck (fault kind.BadByte at (at + 1))

-- `Reads at text tokens ending`: the text that is left at offset `at` consists of pieces with these
-- tokens, up to that ending.
pub data Reads : ℕ → List ℕ → List Token → Ending → Type 0 where
  ends : (at : ℕ) → Reads at [] [] ending.Whole
  passes : (at : ℕ) (text : List ℕ) (ts : List Token) (e : Ending) (k : Piece) (n : ℕ) → Longest text k n → token_of k (take n text) (span at (at + n)) ≡ None →
      Reads (at + n) (drop n text) ts e → Reads at text ts e
  takes : (at : ℕ) (text : List ℕ) (ts : List Token) (e : Ending) (k : Piece) (n : ℕ) (tok : Token) → Longest text k n → token_of k (take n text) (span at (at + n)) ≡ Some tok →
      Reads (at + n) (drop n text) ts e → Reads at text (tok ∷ ts) e
  stuck : (at : ℕ) (text : List ℕ) → 0 < length text → NoPiece text → Reads at text [] (piece_fault at text)

-- the text is only white space and comments
abbrev pub IsBlank : List ℕ → Type 0
IsBlank text = Reads 0 text [] ending.Whole
