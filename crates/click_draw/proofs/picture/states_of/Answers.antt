use Rattle.std.proofs.Common.{take}
use Rattle.click_router.proofs.OfOpenings.FirstStates.{AreFresh-push, taken}
use Rattle.click_draw.proofs.OpenedNet.{begun-at}
use Rattle.click_draw.proofs.picture.states_of.Goals as goal

pub state_of-requires : goal.state_of-requires
state_of-requires c =
    let e = c.element-item.result in
    rw c.element-item.is (begun-at c.args.elements.now c.requires.0 c.requires.1 c.loop-element.element-index e c.loop-element-test.true)

pub loop-element-preserved : goal.loop-element-preserved
loop-element-preserved c =
    let es = c.args.elements.now in let i = c.loop-element.element-index in let e = c.element-item.result in
    rw (taken es i e c.loop-element-test.true c.element-item.is, c.in_ok-push.ensures)
    (AreFresh-push (take i es) c.loop-element.states.items e c.in_ok-state_of.field-0 c.loop-element.invariant c.in_ok-state_of.ensures)
