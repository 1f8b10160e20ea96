use Rattle.std.proofs.Common.{◌≡◌, take, map}
use Rattle.click_ports.specs.Net.{shape_of}
use Rattle.click_ports.proofs.resolution.shapes_of.Given as goal

abbrev pub invariant-loop-state : goal.invariant-loop-state
invariant-loop-state l = l.shapes.items ≡ map shape_of (take l.state-index l.states)
