-- A text as a list of tokens, each the longest that begins at its place. White space separates
-- tokens.
use Rattle.std.specs.Prelude.{◌≡◌, ℕ, ◌<◌, List, [], ◌∷◌, length, drop, slice_index, Bool, ◌||◌, ◌&&◌, nat_eq, nat_lt, nat_le, Option, Some, None, if◌then◌else◌}
use Rattle.click_base.specs.Numbers.{digit}
use Rattle.click_filter.specs.declared.test.Relation.TheVariants as relation
use Rattle.click_patterns.specs.declared.token.Join.TheVariants as join
use Rattle.click_patterns.specs.declared.token.Token.{Token}
use Rattle.click_patterns.specs.declared.token.Token.TheVariants as token
use Rattle.click_patterns.specs.Values.{token_of}

-- space, tab, LF, vertical tab, form feed, CR
abbrev pub white : ℕ → Bool
white b = nat_eq b 32 || (nat_le 9 b && nat_le b 13)

-- a letter, a digit, `-`, `.` or `/`
abbrev pub word_byte : ℕ → Bool
word_byte b = digit b || (nat_le 65 b && nat_le b 90) || (nat_le 97 b && nat_le b 122) || (nat_le 45 b && nat_le b 47)

-- the word with which a text begins
abbrev pub word : List ℕ → List ℕ
word [] = []
word (b ∷ text) = if word_byte b then b ∷ word text else []

-- tokens of two bytes
abbrev pub two : ℕ → ℕ → Option Token
two a b =
    if nat_eq a 38 && nat_eq b 38 then Some (token.Join join.And)
    else if nat_eq a 124 && nat_eq b 124 then Some (token.Join join.Or)
    else if nat_eq a 33 && nat_eq b 61 then Some (token.Relation relation.NotEqual)
    else if nat_eq a 61 && nat_eq b 61 then Some (token.Relation relation.Equal)
    else if nat_eq a 60 && nat_eq b 61 then Some (token.Relation relation.LessOrEqual)
    else if nat_eq a 62 && nat_eq b 61 then Some (token.Relation relation.GreaterOrEqual)
    else None

-- tokens of one byte
abbrev pub one : ℕ → Option Token
one a =
    if nat_eq a 40 then Some token.Open
    else if nat_eq a 41 then Some token.Close
    else if nat_eq a 33 then Some token.Not
    else if nat_eq a 61 then Some (token.Relation relation.Equal)
    else if nat_eq a 60 then Some (token.Relation relation.Less)
    else if nat_eq a 62 then Some (token.Relation relation.Greater)
    else None

abbrev pub longer : Option Token → Option Token → Option (Option Token × ℕ)
longer (Some t) other = Some (Some t, 2)
longer None (Some t) = Some (Some t, 1)
longer None None = None

-- the token other than a word with which a text begins, and its length
abbrev pub mark : List ℕ → Option (Option Token × ℕ)
mark text = longer (if nat_lt 1 (length text) then two (slice_index text 0) (slice_index text 1) else None) (one (slice_index text 0))

-- what stands at the front of a text, and its length: white space, which is no token, or a token
unfoldable pub piece : List ℕ → Option (Option Token × ℕ)
piece text =
    if white (slice_index text 0) then Some (None, 1)
    else if word_byte (slice_index text 0) then Some (Some (token_of (word text)), length (word text))
    else mark text

-- the text consists of these tokens
pub data AreTokens : List ℕ → List Token → Type 0 where
  ends : AreTokens [] []
  passes : {text : List ℕ} {ts : List Token} {n : ℕ} → 0 < length text → piece text ≡ Some (None, n) → AreTokens (drop n text) ts → AreTokens text ts
  takes : {text : List ℕ} {ts : List Token} {t : Token} {n : ℕ} → 0 < length text → piece text ≡ Some (Some t, n) → AreTokens (drop n text) ts → AreTokens text (t ∷ ts)
