-- The stored elements of each scope.
use Rattle.std.specs.Prelude.{◌≡◌, ℕ, List, map, filter_map, Bool, Option, Some, None}
use Rattle.click_text.specs.declared.syntax.Span.{Span}
use Rattle.click_text.specs.declared.syntax.Element.{Element}
use Rattle.click_text.specs.declared.syntax.Statement.{Statement}
use Rattle.click_text.specs.declared.syntax.Config.{Config}
use Rattle.click_scopes.specs.Scopes.{Scope, is_body}
use Rattle.click_scopes.specs.Elements.{Placed, Role, pseudo, refers, makes, role, declared_names, scope_elements_from}
use Rattle.click_scopes.specs.Faults.{scope_placed, scope_declared}
use Rattle.click_scopes.specs.kept.Tables.{AreWritten, elements_of, names_declared, scope_element_of}
use Rattle.click_scopes.specs.declared.classes.ClassEntry.{ClassEntry}
use Rattle.click_scopes.specs.declared.written_scopes.WrittenElement.{WrittenElement}
use Rattle.click_scopes.specs.declared.scope_elements.ScopeElement.{ScopeElement as ScopeElementKept}

-- the stored elements of a scope with these written elements
abbrev pub AreScopeElementsOf : List ℕ → List ClassEntry → Bool → List WrittenElement → List ScopeElementKept → Type 0
AreScopeElementsOf text class_table in_body ws ls =
    (ps : List Placed) → AreWritten text class_table ws ps → map (scope_element_of text) ls ≡ scope_elements_from text in_body (declared_names text ps) 0 ps

-- the configuration string of a written element that makes one; the inner None is no string
abbrev pub string_where_made : Role → Option Span → Option (Option Span)
string_where_made makes t = Some t
string_where_made refers t = None
string_where_made pseudo t = None

abbrev pub string_made : List ℕ → Bool → List (List ℕ) → Element → Option (Option Span)
string_made text in_body declared e = string_where_made (role text in_body declared e) e.text

-- the configuration strings of the elements that these written elements make
abbrev pub strings_made : List ℕ → Bool → List (List ℕ) → List Element → List (Option Span)
strings_made text in_body declared es = filter_map (string_made text in_body declared) es

abbrev pub strings_of : List ScopeElementKept → List (Option Span)
strings_of ls = map (λ (l : ScopeElementKept). l.text) ls

-- the configuration strings of a scope with these written elements
abbrev pub AreStringsOf : List ℕ → Bool → List WrittenElement → List ScopeElementKept → Type 0
AreStringsOf text in_body ws ls = strings_of ls ≡ strings_made text in_body (names_declared text (elements_of ws)) (elements_of ws)

abbrev pub scope_strings : Config → Scope → List Statement → List (Option Span)
scope_strings c s visible = strings_made c.text (is_body s) (scope_declared c s visible) (map (λ (p : Placed). p.element) (scope_placed c s visible))
