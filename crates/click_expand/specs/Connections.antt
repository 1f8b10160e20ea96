-- The connections of a configuration: two elements are connected if a chain of written connections
-- leads from one to the other, with only ports of compounds between.
use Rattle.std.specs.Prelude.{ℕ, List, [], ◌∷◌, ◌++◌, Contains}
use Rattle.click_text.specs.declared.syntax.Statement.{Statement}
use Rattle.click_text.specs.declared.syntax.Config.{Config}
use Rattle.click_scopes.specs.Scopes.{Scope}
use Rattle.click_scopes.specs.Elements.{Role, pseudo, refers, makes}
use Rattle.click_scopes.specs.Faults.{End, WrittenConnection, scope_connections}
use Rattle.click_expand.specs.Instances.{LeadsTo}

-- a port of the element, or of the compound, at a path
pub data Node : Type 0 where
  output_of : List (List ℕ) → ℕ → Node
  input_of : List (List ℕ) → ℕ → Node

-- the node at the source of a written connection, in an instance of its scope: an output of an
-- element, or an input of the compound around it
abbrev pub begin_node : List (List ℕ) → End → Role → ℕ → Node
begin_node path e pseudo port = input_of path port
begin_node path e refers port = output_of (path ++ e.name ∷ []) port
begin_node path e makes port = output_of (path ++ e.name ∷ []) port

-- the node at the target of a written connection: an input of an element, or an output of the
-- compound around it
abbrev pub end_node : List (List ℕ) → End → Role → ℕ → Node
end_node path e pseudo port = output_of path port
end_node path e refers port = input_of (path ++ e.name ∷ []) port
end_node path e makes port = input_of (path ++ e.name ∷ []) port

pub data Leads (c : Config) : Node → Node → Type 0 where
  -- one written connection, in an instance of its scope
  by_connection : (path : List (List ℕ)) (s : Scope) (visible : List Statement) (j : WrittenConnection) → LeadsTo c path s visible → Contains (scope_connections c s visible) j →
      Leads c (begin_node path j.from j.from.role j.out_port) (end_node path j.to j.to.role j.in_port)
  -- one chain after another
  further : (a b d : Node) → Leads c a b → Leads c b d → Leads c a d
