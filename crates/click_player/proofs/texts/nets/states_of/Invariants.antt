use Rattle.std.proofs.Common.{take}
use Rattle.click_ports.specs.Net.{AreStatesOf}
use Rattle.click_player.proofs.texts.nets.states_of.Given as goal

abbrev pub invariant-loop-element : goal.invariant-loop-element
invariant-loop-element l = AreStatesOf (take l.element-index l.elements) l.states.items
