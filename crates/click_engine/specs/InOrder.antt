-- Plants in order: a plant begins in order, and every call leaves it so.
use Rattle.std.specs.Prelude.{◌≡◌, ℕ, ◌<◌, List, length, slice_get, slice_index_or, option_map, Some}
use Rattle.std.specs.List.{All}
use Rattle.click_classes.specs.Fitting.{FitsPorts}
use Rattle.click_classes.specs.Queues.{IsSound}
use Rattle.click_classes.specs.State.{class}
use Rattle.click_base.specs.declared.class.Class.TheVariants as kind
use Rattle.click_classes.specs.declared.ports.Side.TheVariants as side
use Rattle.click_ports.specs.Net.{Net, IsLawfulNet}
use Rattle.click_ports.specs.Ports.{used}
use Rattle.click_ports.specs.declared.shape.Shape.{Shape}
use Rattle.click_engine.specs.declared.run_state.Element.{Element}
use Rattle.click_engine.specs.declared.run_state.ConnectionEnd.{ConnectionEnd}
use Rattle.click_engine.specs.Plant.{Plant}
use Rattle.click_engine.specs.Rounds.{source_of, sink_of, state_at}
use Rattle.click_engine.specs.RunState.{Wiring, blank}

-- an element has the class and the numbers of ports that the net has at its index
pub record IsPlaced (net : Net) (at : ℕ) (e : Element) : Type 0 where
  pub its_class : option_map (λ (s : Shape). s.class) (slice_get net.shapes at) ≡ Some (class e.state)
  pub inputs : e.inputs ≡ used net.connections at side.Input
  pub outputs : e.outputs ≡ used net.connections at side.Output

-- the net is lawful, each element has its class and ports, and a state that allows them, and no
-- queue holds more than it has room for
pub record AreInOrder (net : Net) (es : List Element) : Type 0 where
  pub lawful : IsLawfulNet net
  pub count : length es ≡ length net.shapes
  pub placed : (at : ℕ) → at < length es → IsPlaced net at (slice_index_or es at blank)
  pub fitting : All (λ (e : Element). FitsPorts e.inputs e.outputs e.state) es
  pub sound : All (λ (e : Element). IsSound e.state) es

-- the plant's elements are in order, and the packets of its devices enter at a FromDevice and leave
-- at a ToDevice
pub record IsInOrder (v : Plant) : Type 0 where
  pub elements : AreInOrder v.net v.elements
  pub enters : (device : List ℕ) (at : ℕ) → source_of v device ≡ Some at → class (state_at v at) ≡ kind.FromDevice
  pub leaves : (device : List ℕ) (at : ℕ) → sink_of v device ≡ Some at → class (state_at v at) ≡ kind.ToDevice

-- another wiring has all connections of the first one, and perhaps more
pub record JoinsToo (first other : Wiring) : Type 0 where
  pub target : (at output : ℕ) (far : ConnectionEnd) → first.target at output ≡ Some far → other.target at output ≡ Some far
  pub source : (at input : ℕ) (far : ConnectionEnd) → first.source at input ≡ Some far → other.source at input ≡ Some far
