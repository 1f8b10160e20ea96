-- The arguments of a configuration string (Click manual, "Configuration strings").
use Rattle.std.specs.Prelude.{◌≡◌, ◌⊎◌, ℕ, ◌+◌, ◌≤◌, List, [], ◌∷◌, ◌++◌, length, Bool, false, eqb, if◌then◌else◌}
use Rattle.std.specs.List.{list_all}
use Rattle.click_text.specs.declared.syntax.Span.{Span}
use Rattle.click_text.specs.declared.items.ItemKind.{ItemKind}
use Rattle.click_text.specs.declared.items.ItemKind.TheVariants as kind
use Rattle.click_text.specs.Pieces.{span, IsBlank}
use Rattle.click_text.specs.Items.{Item, AreItems, size, is_blank_item, parted}

abbrev pub is_comma : ItemKind → Bool
is_comma (kind.Byte b) = eqb b 44
is_comma _ = false

abbrev pub all_blank : List Item → Bool
all_blank items = list_all is_blank_item items

-- the white space and comments at the front
abbrev pub front : List Item → List Item
front [] = []
front (i ∷ items) = if is_blank_item i then i ∷ front items else []

-- the items without the white space and comments at the back
abbrev pub without_back : List Item → List Item
without_back [] = []
without_back (i ∷ items) = if all_blank (i ∷ items) then [] else i ∷ without_back items

-- the span of an argument with these items, which begin at offset `at`; for an empty argument it is
-- empty, after them
abbrev pub argument_span : ℕ → List Item → Span
argument_span at items =
    if all_blank items then span (at + size items) (at + size items)
    else span (at + size (front items)) (at + size (without_back items))

-- the spans of arguments with these items, which begin at offset `at`, with a comma between two of
-- them
abbrev pub arguments_from : ℕ → List (List Item) → List Span
arguments_from at [] = []
arguments_from at (p ∷ ps) = argument_span at p ∷ arguments_from (at + size p + 1) ps

-- the arguments of a text with these items: what is between the commas outside parentheses
abbrev pub cut : List Item → List Span
cut items = if all_blank items then [] else arguments_from 0 (parted is_comma 0 items)

-- `spans` are the spans of the text's arguments
pub record AreArguments (text : List ℕ) (spans : List Span) : Type 0 where
  pub items : List Item
  pub read : AreItems text items
  pub cuts : spans ≡ cut items

-- For laws.

-- the spans are in order between two offsets, with at least one byte between two of them
abbrev pub SpansInOrder : ℕ → List Span → ℕ → Type 0
SpansInOrder from [] to = Unit {0}
SpansInOrder from (s ∷ spans) to = (from ≤ s.start) × (s.start ≤ s.end) × (s.end ≤ to) × SpansInOrder (s.end + 1) spans to

-- `AreJoined at bytes spans`: the bytes, which begin at offset `at`, are those of the spans joined
-- by commas, with white space and comments before and after each.
pub data AreJoined : ℕ → List ℕ → List Span → Type 0 where
  last : (at : ℕ) (before inside after : List ℕ) → IsBlank before → IsBlank after →
      AreJoined at (before ++ (inside ++ after)) (span (at + length before) (at + length before + length inside) ∷ [])
  more : (at : ℕ) (before inside after rest : List ℕ) (spans : List Span) → IsBlank before → IsBlank after →
      AreJoined (at + length before + length inside + length after + 1) rest spans →
      AreJoined at ((before ++ (inside ++ after)) ++ 44 ∷ rest) (span (at + length before) (at + length before + length inside) ∷ spans)

-- the arguments joined are the text; or there are none, and the text is white space and comments
abbrev pub IsTextOf : List ℕ → List Span → Type 0
IsTextOf text spans = (IsBlank text × (spans ≡ [])) ⊎ AreJoined 0 text spans
