use Rattle.std.proofs.Common.{◌+◌, refl, sym, subst, arith}
use Rattle.std.proofs.lemmas.Option.{slice_get_read}
use Rattle.click_scopes.specs.kept.FirstFault.{IsLeast}
use Rattle.click_scopes.specs.kept.CompoundFaults.{Among, IsWrongCall}
use Rattle.click_scopes.proofs.OfFaults.PlaceCompoundFaults.{among-none, among-next, among-all, call-here}
use Rattle.click_scopes.proofs.compound_faults.in_calls.Goals as goal

pub loop-scope_element-init : goal.loop-scope_element-init
loop-scope_element-init c = among-none (IsWrongCall c.args.bodies.now c.args.scope_elements.now)

pub loop-scope_element-preserved : goal.loop-scope_element-preserved
loop-scope_element-preserved c =
    let bodies = c.args.bodies.now in let ls = c.args.scope_elements.now in let i = c.loop-scope_element.scope_element-index in
    let C = IsWrongCall bodies ls in let l = c.scope_element-item.result in
    subst (IsLeast (Among C (i + 1))) (sym c.first_of-first.ensures)
    (among-next C i c.loop-scope_element.first c.wrong_call.result c.loop-scope_element.invariant
    (call-here bodies ls i l c.wrong_call.result (slice_get_read ls _ i l refl c.loop-scope_element-test.true c.scope_element-item.is) c.wrong_call.ensures))

pub returns : goal.returns
returns c =
    among-all (IsWrongCall c.args.bodies.now c.args.scope_elements.now) c.loop-scope_element.scope_element-index _ c.loop-scope_element.first
    (let a = c.loop-scope_element.auto.scope_element-index-end in let t = c.loop-scope_element-test.false in omega (arith, a, t)) c.loop-scope_element.invariant
