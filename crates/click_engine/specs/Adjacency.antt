-- The connections of a net as the wiring that pushes and pulls follow, and the run state in memory.
use Rattle.std.specs.Prelude.{ℕ, List, [], ◌∷◌, nat_eq, Bool, ◌&&◌, Option, Some, None, if◌then◌else◌}
use Rattle.click_classes.specs.declared.ports.Side.{Side}
use Rattle.click_classes.specs.declared.ports.Side.TheVariants as side
use Rattle.click_expand.specs.declared.flat.Connection.{Connection}
use Rattle.click_ports.specs.Net.{Net}
use Rattle.click_engine.specs.RunState.{Wiring, RunState, but_last}
use Rattle.click_engine.specs.declared.run_state.ConnectionEnd.{ConnectionEnd}
use Rattle.click_engine.specs.declared.run_memory.RunMemory.{RunMemory}

abbrev pub run_state_of : RunMemory → RunState
run_state_of w = record { elements = but_last w.elements.items; left = w.left; overruns = w.overruns }

-- the end of a connection at a side: the output that it leaves, or the input that it enters
abbrev pub end_of : Side → Connection → ConnectionEnd
end_of side.Output c = record { element = c.from; port = c.out_port }
end_of side.Input c = record { element = c.to; port = c.in_port }

abbrev pub is_port : ConnectionEnd → ℕ → ℕ → Bool
is_port p at number = nat_eq p.element at && nat_eq p.port number

-- the other end of the first connection at a port
abbrev pub first_joined : Side → Side → List Connection → ℕ → ℕ → Option ConnectionEnd
first_joined near far [] at number = None
first_joined near far (c ∷ cs) at number =
    if is_port (end_of near c) at number then Some (end_of far c) else first_joined near far cs at number

-- the input that a push at an output goes to, and the output that a pull at an input asks; the port
-- rules allow one such connection only
abbrev pub target_in : List Connection → ℕ → ℕ → Option ConnectionEnd
target_in cs = first_joined side.Output side.Input cs

abbrev pub source_in : List Connection → ℕ → ℕ → Option ConnectionEnd
source_in cs = first_joined side.Input side.Output cs

abbrev pub wiring_of : Net → Wiring
wiring_of net = record { target = target_in net.connections; source = source_in net.connections }
