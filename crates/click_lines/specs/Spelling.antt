-- Bytes as words of a line, escaped where necessary.
use Rattle.std.specs.Prelude.{ℕ, Bool, ◌==◌, ◌&&◌, not, nat_le, if◌then◌else◌, List, [], ◌∷◌, ◌++◌}
use Rattle.std.specs.List.{flat_map}
use Rattle.hex.specs.Hex.{encode_lower}

-- a byte that is not escaped: a visible byte of ASCII, at least `least`, other than the backslash
abbrev pub is_plain : ℕ → ℕ → Bool
is_plain least b = nat_le least b && nat_le b 126 && not (b == 92)

-- any other byte is a backslash and its two hex digits, in lower case
abbrev pub escaped_byte : ℕ → ℕ → List ℕ
escaped_byte least b = if is_plain least b then b ∷ [] else 92 ∷ encode_lower (b ∷ [])

abbrev pub escaped : ℕ → List ℕ → List ℕ
escaped least bytes = flat_map (escaped_byte least) bytes

-- bytes as one word, in which blanks are escaped
abbrev pub word : List ℕ → List ℕ
word bytes = escaped 33 bytes

-- bytes as words, in which blanks are not escaped
abbrev pub words : List ℕ → List ℕ
words bytes = escaped 32 bytes

-- each part with a byte before it
abbrev pub behind : ℕ → List (List ℕ) → List ℕ
behind byte parts = flat_map (λ (part : List ℕ). byte ∷ part) parts

-- parts with a byte between them
abbrev pub joined : ℕ → List (List ℕ) → List ℕ
joined byte [] = []
joined byte (part ∷ parts) = part ++ behind byte parts
