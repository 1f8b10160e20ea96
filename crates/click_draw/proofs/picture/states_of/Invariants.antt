use Rattle.std.proofs.Common.{take}
use Rattle.click_router.specs.Opened.{AreFresh}
use Rattle.click_draw.proofs.picture.states_of.Given as goal

abbrev pub invariant-loop-element : goal.invariant-loop-element
invariant-loop-element l = AreFresh (take l.element-index l.elements) l.states.items
