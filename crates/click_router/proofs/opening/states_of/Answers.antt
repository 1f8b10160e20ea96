use Rattle.std.proofs.Common.{◌+◌, take, drop}
use Rattle.std.proofs.lemmas.Result.{err_from_is_err_and}
use Rattle.click_router.proofs.OfOpenings.FirstStates.{AreFresh-push, unfit, taken, between}
use Rattle.click_router.proofs.opening.states_of.Goals as goal

pub returns-in_err-state_of-clause-err : goal.returns-in_err-state_of-clause-err
returns-in_err-state_of-clause-err c =
    let es = c.args.elements.now in let i = c.loop-element.element-index in let e = c.element-item.result in
    let r = err_from_is_err_and c.from_residual-in_err-state_of.result c.from_residual-in_err-state_of.ensures.1 in
    rw (r.1, r.2) (unfit es (take i es) e (drop (i + 1) es) c.loop-element.states.items c.in_err-state_of.field-0.0
    (between es i e c.loop-element-test.true c.element-item.is) c.loop-element.invariant c.in_err-state_of.ensures.err)

pub loop-element-preserved : goal.loop-element-preserved
loop-element-preserved c =
    let es = c.args.elements.now in let i = c.loop-element.element-index in let e = c.element-item.result in
    let l = c.loop-element-test.true in let is = c.element-item.is in
    rw (taken es i e l is, c.in_ok-push.ensures) (AreFresh-push (take i es) c.loop-element.states.items e c.in_ok-state_of.field-0 c.loop-element.invariant c.in_ok-state_of.ensures.fresh)
