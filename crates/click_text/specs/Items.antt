-- A configuration string as a list of items, each the longest that begins at its offset (Click
-- manual, "Configuration strings").
use Rattle.std.specs.Prelude.{◌≡◌, ◌⊎◌, ℕ, ◌+◌, ◌-◌, ◌<◌, ◌≤◌, List, [], ◌∷◌, ◌++◌, length, take, drop, Bool, true, false, ◌&&◌, eqb, if◌then◌else◌}
use Rattle.click_text.specs.declared.items.ItemKind.{ItemKind}
use Rattle.click_text.specs.declared.items.ItemKind.TheVariants as kind
use Rattle.click_text.specs.declared.lexer.Piece.TheVariants as piece
use Rattle.click_text.specs.declared.strings.Mode.{Mode}
use Rattle.click_text.specs.declared.strings.Mode.TheVariants as mode
use Rattle.click_text.specs.Strings.{mode_after}
use Rattle.click_text.specs.Pieces.{white, IsPiece}

-- neither a quote nor a comment is open
abbrev pub is_plain : Mode → Bool
is_plain mode.Plain = true
is_plain _ = false

-- the last of these bytes ends the quote, and no byte before it does
abbrev pub ends_quote : Mode → List ℕ → Bool
ends_quote m [] = false
ends_quote m (b ∷ []) = is_plain (mode_after m b)
ends_quote m (b ∷ c ∷ p) = if is_plain (mode_after m b) then false else ends_quote (mode_after m b) (c ∷ p)

-- the bytes are an item of that kind
abbrev pub IsItem : ItemKind → List ℕ → Type 0
IsItem kind.White p = IsPiece piece.Blank p
IsItem kind.Comment p = IsPiece piece.LineComment p ⊎ IsPiece piece.BlockComment p
-- `"` up to the next `"`; a `\` takes the next byte with it
IsItem kind.Double p = (r : List ℕ) × (p ≡ 34 ∷ r) × (ends_quote mode.Double r ≡ true)
-- `'` up to the next `'`
IsItem kind.Single p = (r : List ℕ) × (p ≡ 39 ∷ r) × (ends_quote mode.Single r ≡ true)
-- `\<` up to the next `>`
IsItem kind.Hexadecimal p = (r : List ℕ) × (p ≡ 92 ∷ 60 ∷ r) × (ends_quote mode.Angle r ≡ true)
-- any other byte
IsItem (kind.Byte b) p = (white b ≡ false) × (p ≡ b ∷ [])

-- the longest item that begins the text has n bytes and that kind
pub record LongestItem (text : List ℕ) (k : ItemKind) (n : ℕ) : Type 0 where
  pub within : n ≤ length text
  pub form : IsItem k (take n text)
  pub longest : (j : ItemKind) (m : ℕ) → n < m → m ≤ length text → IsItem j (take m text) → ⊥

pub record Item : Type 0 where
  pub kind : ItemKind
  pub bytes : List ℕ

abbrev pub item : ItemKind → List ℕ → Item
item k p = record { kind = k; bytes = p }

-- the items of a text
pub data AreItems : List ℕ → List Item → Type 0 where
  ended : AreItems [] []
  next : (text : List ℕ) (k : ItemKind) (n : ℕ) (items : List Item) → LongestItem text k n →
      AreItems (drop n text) items → AreItems text (item k (take n text) ∷ items)

-- the bytes of items
abbrev pub bytes_of : List Item → List ℕ
bytes_of [] = []
bytes_of (i ∷ items) = i.bytes ++ bytes_of items

abbrev pub size : List Item → ℕ
size items = length (bytes_of items)

-- white space or a comment
abbrev pub blank_kind : ItemKind → Bool
blank_kind kind.White = true
blank_kind kind.Comment = true
blank_kind _ = false

abbrev pub is_blank_item : Item → Bool
is_blank_item i = blank_kind i.kind

-- the number of open parentheses after an item; a closing parenthesis without an open one is
-- ignored
abbrev pub parentheses_after : ItemKind → ℕ → ℕ
parentheses_after (kind.Byte b) depth = if eqb b 40 then depth + 1 else if eqb b 41 then depth - 1 else depth
parentheses_after _ depth = depth

-- the lists with an item in front of the first of them
abbrev pub put : Item → List (List Item) → List (List Item)
put i [] = (i ∷ []) ∷ []
put i (p ∷ ps) = (i ∷ p) ∷ ps

-- the lists of items between those that pass the test outside parentheses; `depth` parentheses are
-- open before
abbrev pub parted : (ItemKind → Bool) → ℕ → List Item → List (List Item)
parted test depth [] = [] ∷ []
parted test depth (i ∷ items) =
    if eqb depth 0 && test i.kind then [] ∷ parted test depth items else put i (parted test (parentheses_after i.kind depth) items)
