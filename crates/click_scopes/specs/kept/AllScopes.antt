-- The stored scopes of a configuration.
use Rattle.std.specs.Prelude.{◌≡◌, List, map, slice_get, All, Bool, Some}
use Rattle.click_text.specs.declared.syntax.Statement.{Statement}
use Rattle.click_text.specs.declared.syntax.Config.{Config}
use Rattle.click_scopes.specs.Scopes.{Scope, Stands}
use Rattle.click_scopes.specs.Faults.{elements_of_scope, scope_connections}
use Rattle.click_scopes.specs.kept.Tables.{scope_element_of}
use Rattle.click_scopes.specs.kept.Scoped.{table_place, outer_of}
use Rattle.click_scopes.specs.kept.ScopeElements.{AreScopeElementsOf, AreStringsOf, strings_of, scope_strings}
use Rattle.click_scopes.specs.kept.CompoundArguments.{HasArguments}
use Rattle.click_scopes.specs.kept.WrittenConnections.{AreWrittenConnections}
use Rattle.click_scopes.specs.kept.ConnectionEnds.{AreWrittenConnectionsOf}
use Rattle.click_scopes.specs.declared.classes.ClassEntry.{ClassEntry}
use Rattle.click_scopes.specs.declared.written_scopes.WrittenScope.{WrittenScope}
use Rattle.click_scopes.specs.declared.scopes.Scope.{Scope as ScopeKept}

-- k is the stored form of the written scope w
pub record IsScopeOf (c : Config) (class_table : List ClassEntry) (in_body : Bool) (w : WrittenScope) (k : ScopeKept) : Type 0 where
  pub elements : AreScopeElementsOf c.text class_table in_body w.written.items k.elements.items
  pub strings : AreStringsOf c.text in_body w.written.items k.elements.items
  pub arguments : All (HasArguments c.text) k.elements.items
  pub connections : AreWrittenConnectionsOf c in_body w.written.items k.connections
  pub parent : k.parent ≡ w.parent

-- k is the stored form of a scope: its elements with their strings and arguments, its connections,
-- and the index of the scope around it.
pub record IsScope (c : Config) (s : Scope) (visible : List Statement) (enclosing : List Scope) (k : ScopeKept) : Type 0 where
  pub elements : map (scope_element_of c.text) k.elements.items ≡ elements_of_scope c s visible
  pub strings : strings_of k.elements.items ≡ scope_strings c s visible
  pub arguments : All (HasArguments c.text) k.elements.items
  pub connections : AreWrittenConnections (elements_of_scope c s visible) k.connections (scope_connections c s visible)
  pub parent : k.parent ≡ outer_of c enclosing

-- each scope is stored at its index in the table
abbrev pub AreAllScopes : Config → List ScopeKept → Type 0
AreAllScopes c all =
    (s : Scope) (visible : List Statement) (enclosing : List Scope) → Stands c s visible enclosing →
    (k : ScopeKept) × (slice_get all (table_place c s) ≡ Some k) × IsScope c s visible enclosing k
