-- The text between the parentheses of a configuration string, and what it leaves open.
use Rattle.std.specs.Prelude.{◌≡◌, ℕ, List, [], ◌∷◌, ◌++◌, Bool, true, false, ◌||◌, eqb, if◌then◌else◌}
use Rattle.click_text.specs.declared.items.ItemKind.{ItemKind}
use Rattle.click_text.specs.declared.items.ItemKind.TheVariants as kind
use Rattle.click_text.specs.declared.strings.Mode.TheVariants as mode
use Rattle.click_text.specs.Strings.{closes}
use Rattle.click_text.specs.Items.{Item, bytes_of}

-- a `)` after the text closes the string, and no byte before does
abbrev pub IsStringText : List ℕ → Type 0
IsStringText text = closes mode.Plain 1 (text ++ 41 ∷ []) ≡ true

abbrev pub begins_with : ℕ → List ℕ → Bool
begins_with b [] = false
begins_with b (c ∷ text) = eqb c b

-- the item is the first byte of a quote or of a `/*` comment: `"`, `'`, the `\` of `\<` or the `/`
-- of `/*`
abbrev pub opens : ItemKind → List ℕ → Bool
opens (kind.Byte b) rest =
    if eqb b 34 then true else if eqb b 39 then true else if eqb b 92 then begins_with 60 rest else if eqb b 47 then begins_with 42 rest else false
opens _ rest = false

-- one of the items is the first byte of a quote or comment that is not closed, and so is an item of
-- one byte
abbrev pub leaves_open : List Item → Bool
leaves_open [] = false
leaves_open (i ∷ items) = opens i.kind (bytes_of items) || leaves_open items
