-- A plant as contracts see it: its net, tasks, devices, elements and overruns.
use Rattle.std.specs.Prelude.{◌≡◌, ℕ, ◌+◌, List, [], ◌∷◌}
use Rattle.click_classes.specs.State.{class}
use Rattle.click_classes.specs.declared.ports.Side.TheVariants as side
use Rattle.click_classes.specs.declared.state.State.{State}
use Rattle.click_ports.specs.Net.{Net}
use Rattle.click_ports.specs.Ports.{used}
use Rattle.click_engine.specs.declared.run_state.Element.{Element}
use Rattle.click_engine.specs.Devices.{Device, devices_from}
use Rattle.click_engine.specs.Tasks.{AreTasks}
use Rattle.click_engine.specs.declared.devices.PacketDirection.TheVariants as direction
use Rattle.click_engine.specs.Adjacency.{wiring_of}
use Rattle.click_engine.specs.RunState.{Wiring, RunState}

-- the maximum number of crossings of one packet run
abbrev pub most_crossings : ℕ
most_crossings = 1024

-- the indices of the elements with a task; the elements where packets of a device enter, and where
-- they leave; and the elements in flat order. Packet runs change only elements and overruns
pub record Plant : Type 0 where
  pub net : Net
  pub tasks : List ℕ
  pub sources : List Device
  pub sinks : List Device
  pub elements : List Element
  pub overruns : ℕ

-- the element at an index of the net, with this state
abbrev pub element_of : Net → ℕ → State → Element
element_of net at s = record {
  class = class s;
  inputs = used net.connections at side.Input;
  outputs = used net.connections at side.Output;
  state = s;
}

abbrev pub elements_from : Net → ℕ → List State → List Element
elements_from net at [] = []
elements_from net at (s ∷ ss) = element_of net at s ∷ elements_from net (at + 1) ss

-- the plant begins with these states
pub record IsStarted (net : Net) (states : List State) (v : Plant) : Type 0 where
  pub net_is : v.net ≡ net
  pub tasks_are : AreTasks net 0 net.shapes v.tasks
  pub sources_are : v.sources ≡ devices_from direction.In 0 states
  pub sinks_are : v.sinks ≡ devices_from direction.Out 0 states
  pub elements_are : v.elements ≡ elements_from net 0 states
  pub none_overrun : v.overruns ≡ 0

abbrev pub wiring : Plant → Wiring
wiring v = wiring_of v.net

-- the run state of a packet run that may make n crossings, and the plant after a packet run
abbrev pub begin : ℕ → Plant → RunState
begin n v = record { elements = v.elements; left = n; overruns = v.overruns }

abbrev pub end : Plant → RunState → Plant
end v w = record v { elements = w.elements; overruns = w.overruns }
