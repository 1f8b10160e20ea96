-- The words of an argument, and its bytes without comments (Click manual, "Configuration strings").
use Rattle.std.specs.Prelude.{◌≡◌, ℕ, List, [], ◌∷◌, Bool, true, false}
use Rattle.click_text.specs.declared.items.ItemKind.{ItemKind}
use Rattle.click_text.specs.declared.items.ItemKind.TheVariants as kind
use Rattle.click_text.specs.Items.{Item, item, AreItems, bytes_of, parted}

-- the item, or a space for a comment
abbrev pub spaced_as : ItemKind → List ℕ → Item
spaced_as kind.Comment p = item kind.White (32 ∷ [])
spaced_as k p = item k p

abbrev pub spaced : List Item → List Item
spaced [] = []
spaced (i ∷ items) = spaced_as i.kind i.bytes ∷ spaced items

abbrev pub is_space : ItemKind → Bool
is_space kind.White = true
is_space _ = false

-- the words with this one in front, unless it is empty
abbrev pub word_before : List ℕ → List (List ℕ) → List (List ℕ)
word_before [] words = words
word_before (b ∷ word) words = (b ∷ word) ∷ words

-- the bytes of each list, without empty ones
abbrev pub words_among : List (List Item) → List (List ℕ)
words_among [] = []
words_among (p ∷ ps) = word_before (bytes_of p) (words_among ps)

-- the words of an argument with these items: what is between white space outside parentheses
abbrev pub words_of : List Item → List (List ℕ)
words_of items = words_among (parted is_space 0 (spaced items))

-- `words` are the words of an argument
pub record AreWords (text : List ℕ) (words : List (List ℕ)) : Type 0 where
  pub items : List Item
  pub read : AreItems text items
  pub cuts : words ≡ words_of items

-- `bytes` are the bytes of an argument with a space for each comment
pub record IsWithoutComments (text : List ℕ) (bytes : List ℕ) : Type 0 where
  pub items : List Item
  pub read : AreItems text items
  pub spaces : bytes ≡ bytes_of (spaced items)
