-- The stored arguments of the elements of compounds.
use Rattle.std.specs.Prelude.{◌≡◌, ℕ, List, Some}
use Rattle.click_text.specs.Arguments.{AreArguments}
use Rattle.click_scopes.specs.Classes.{compound}
use Rattle.click_scopes.specs.Elements.{string_or_empty}
use Rattle.click_scopes.specs.kept.Tables.{meaning_by}
use Rattle.click_scopes.specs.declared.scope_elements.ScopeElement.{ScopeElement as ScopeElementKept}

-- an element of a compound has the arguments of its configuration string
abbrev pub HasArguments : List ℕ → ScopeElementKept → Type 0
HasArguments text l = (b : ℕ) → meaning_by l.class ≡ Some (compound b) → AreArguments (string_or_empty text l.text) l.arguments
