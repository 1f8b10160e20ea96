-- The written scopes of a configuration, in a table.
use Rattle.std.specs.Prelude.{◌≡◌, ℕ, List, [], ◌∷◌, ◌++◌, reverse, length, map, flat_map, slice_get, Option, Some, None}
use Rattle.click_text.specs.declared.syntax.Span.{Span}
use Rattle.click_text.specs.declared.syntax.Link.{Link}
use Rattle.click_text.specs.declared.syntax.Statement.{Statement}
use Rattle.click_text.specs.declared.syntax.Statement.TheVariants as statement
use Rattle.click_text.specs.Spans.{bytes_at}
use Rattle.click_scopes.specs.Classes.{Meaning, meaning}
use Rattle.click_scopes.specs.Faults.{port_number}
use Rattle.click_scopes.specs.declared.written_scopes.WrittenElement.{WrittenElement}
use Rattle.click_text.specs.declared.syntax.Config.{Config}
use Rattle.click_scopes.specs.Scopes.{Scope, whole, inside, statements_of, Stands}
use Rattle.click_scopes.specs.Elements.{placed}
use Rattle.click_scopes.specs.kept.Tables.{AreWritten, meaning_by}
use Rattle.click_scopes.specs.declared.classes.ClassEntry.{ClassEntry}
use Rattle.click_scopes.specs.declared.written_scopes.WrittenScope.{WrittenScope}

-- the index of a scope in the table: that of its body, or the index after all bodies for the whole
-- text
abbrev pub table_place : Config → Scope → ℕ
table_place c whole = length c.bodies
table_place c (inside b) = b

abbrev pub outer_of : Config → List Scope → ℕ
outer_of c [] = length c.bodies
outer_of c (s ∷ enclosing) = table_place c s

-- the ports that connect an element to the one before it in its chain; None for the first element,
-- and outside chains
abbrev pub ports_of : Statement → List (Option (ℕ × ℕ))
ports_of (statement.Chain k) = None ∷ map (λ (l : Link). Some (port_number l.from, port_number l.to)) k.links
ports_of (statement.Declaration d) = map (λ (n : Span). None) d.names
ports_of (statement.Definition n b) = []
ports_of (statement.Synonym n d) = []
ports_of (statement.Requirement t) = []

abbrev pub ports_in : List Statement → List (Option (ℕ × ℕ))
ports_in ss = flat_map ports_of ss

-- k is the stored form of a written scope.
pub record IsWrittenScope (c : Config) (class_table : List ClassEntry) (s : Scope) (visible : List Statement) (enclosing : List Scope) (k : WrittenScope) : Type 0 where
  pub written : AreWritten c.text class_table k.written.items (placed visible (statements_of c s))
  pub ports : map (λ (w : WrittenElement). w.ports) k.written.items ≡ ports_in (statements_of c s)
  pub parent : k.parent ≡ outer_of c enclosing

-- each written scope is stored at its index in the table
abbrev pub AreWrittenScopes : Config → List ClassEntry → List WrittenScope → Type 0
AreWrittenScopes c class_table ks =
    (s : Scope) (visible : List Statement) (enclosing : List Scope) → Stands c s visible enclosing →
    (k : WrittenScope) × (slice_get ks (table_place c s) ≡ Some k) × IsWrittenScope c class_table s visible enclosing k

-- A synonym in a scope, and the meaning of its class.
pub record IsSynonym (c : Config) (original : Span) (m : Option Meaning) : Type 0 where
  pub scope : Scope
  pub visible : List Statement
  pub enclosing : List Scope
  pub stands : Stands c scope visible enclosing
  pub before : List Statement
  pub after : List Statement
  pub name : Span
  pub splits : statements_of c scope ≡ before ++ statement.Synonym name original ∷ after
  pub meaning : m ≡ meaning c.text (reverse before ++ visible) (bytes_at c.text original)

-- The synonyms among the definitions are exactly those in the scopes of the configuration.
pub record AreSynonyms (c : Config) (class_table : List ClassEntry) : Type 0 where
  pub sound : (i : ℕ) (e : ClassEntry) (w : Span) → slice_get class_table i ≡ Some e → e.original ≡ Some w → IsSynonym c w (meaning_by e.class)
  pub complete : (s : Scope) (visible : List Statement) (enclosing : List Scope) (before after : List Statement) (n w : Span) → Stands c s visible enclosing →
      statements_of c s ≡ before ++ statement.Synonym n w ∷ after →
      (i : ℕ) × (e : ClassEntry) × (slice_get class_table i ≡ Some e) × (e.original ≡ Some w)
      × (meaning_by e.class ≡ meaning c.text (reverse before ++ visible) (bytes_at c.text w))
