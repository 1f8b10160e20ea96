-- A configuration without compounds: its elements and connections are those that the whole text
-- declares.
use Rattle.std.specs.Prelude.{◌≡◌, ℕ, List, [], slice_get, Contains, Option, Some}
use Rattle.click_text.specs.declared.syntax.Config.{Config}
use Rattle.click_scopes.specs.Scopes.{whole}
use Rattle.click_scopes.specs.Classes.{Meaning, primitive, compound}
use Rattle.click_scopes.specs.Elements.{ScopeElement}
use Rattle.click_scopes.specs.Faults.{End, WrittenConnection, elements_of_scope, scope_connections}
use Rattle.click_expand.specs.declared.flat.FlatElement.{FlatElement}
use Rattle.click_expand.specs.declared.flat.Connection.{Connection}

-- no element of the whole text is a compound
abbrev pub HasNoCompounds : Config → Type 0
HasNoCompounds c = (l : ScopeElement) (b : ℕ) → Contains (elements_of_scope c whole []) l → l.meaning ≡ Some (compound b) → ⊥

-- the name, class and configuration string of an element of the whole text, and of a flat element
abbrev pub as_written : ScopeElement → List ℕ × Option Meaning × List ℕ
as_written l = (l.name, l.meaning, l.text)

abbrev pub as_flat : FlatElement → List ℕ × Option Meaning × List ℕ
as_flat e = (e.name, Some (primitive e.class), e.text)

-- the element at index i has the name of the end
abbrev pub IsNamed : List ScopeElement → ℕ → End → Type 0
IsNamed ls i e = (l : ScopeElement) × (slice_get ls i ≡ Some l) × (l.name ≡ e.name)

-- a written connection of the whole text connects these ports of these elements
pub record IsConnectionAsWritten (c : Config) (k : Connection) : Type 0 where
  pub written_connection : WrittenConnection
  pub there : Contains (scope_connections c whole []) written_connection
  pub from : IsNamed (elements_of_scope c whole []) k.from written_connection.from
  pub out_port : written_connection.out_port ≡ k.out_port
  pub to : IsNamed (elements_of_scope c whole []) k.to written_connection.to
  pub in_port : written_connection.in_port ≡ k.in_port
