-- The value that contracts see of a net, and the net of a flat form and the states of its elements.
use Rattle.std.specs.Prelude.{◌≡◌, ℕ, ◌<◌, List, length, map, filter, All, Bool, ◌&&◌, nat_lt, Some}
use Rattle.click_classes.specs.declared.state.State.{State}
use Rattle.click_classes.specs.Ports.{counts}
use Rattle.click_classes.specs.State.{class}
use Rattle.click_expand.specs.declared.flat.FlatElement.{FlatElement}
use Rattle.click_expand.specs.declared.flat.Connection.{Connection}
use Rattle.click_expand.specs.declared.flat.Flat.{Flat}
use Rattle.click_ports.specs.declared.shape.Shape.{Shape}
use Rattle.click_ports.specs.Lawful.{Lawful}

-- the names and shapes of the elements, in flat order, and the connections
pub record Net : Type 0 where
  pub names : List (List ℕ)
  pub shapes : List Shape
  pub connections : List Connection

-- the part of a state that the rules of ports depend on
abbrev pub shape_of : State → Shape
shape_of s = record { class = class s; counts = counts s }

-- both ends of the connection are among the first n elements
abbrev pub is_there : ℕ → Connection → Bool
is_there n c = nat_lt c.from n && nat_lt c.to n

-- the connections between two elements; a connection with an end at no element is left out
abbrev pub joined : Flat → List Connection
joined f = filter (is_there (length f.elements)) f.connections

abbrev pub names_of : List FlatElement → List (List ℕ)
names_of es = map (λ (e : FlatElement). e.name) es

abbrev pub net_of : Flat → List State → Net
net_of f states = record {
  names = names_of f.elements;
  shapes = map shape_of states;
  connections = joined f;
}

-- one state for each element, of its class
abbrev pub AreStatesOf : List FlatElement → List State → Type 0
AreStatesOf es states = map (λ (e : FlatElement). e.class) es ≡ map class states

-- what holds of each net: a name for each element, connections between existing elements, and the
-- rules of ports
pub record IsLawfulNet (net : Net) : Type 0 where
  pub named : length net.names ≡ length net.shapes
  pub within : All (λ (c : Connection). (c.from < length net.shapes) × (c.to < length net.shapes)) net.connections
  pub lawful : Lawful net.shapes net.connections
