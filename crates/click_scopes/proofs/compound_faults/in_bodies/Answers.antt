use Rattle.std.proofs.Common.{◌+◌, sym, subst, arith}
use Rattle.click_scopes.specs.kept.FirstFault.{IsLeast}
use Rattle.click_scopes.specs.kept.CompoundFaults.{Among, IsCompoundFaultOfBody}
use Rattle.click_scopes.proofs.OfFaults.PlaceCompoundFaults.{among-none, among-next, among-all, body-here}
use Rattle.click_scopes.proofs.compound_faults.in_bodies.Goals as goal

pub loop-place-init : goal.loop-place-init
loop-place-init c = among-none (IsCompoundFaultOfBody c.args.bodies.now c.args.scopes.now.scopes.items c.args.ports.now)

pub loop-place-preserved : goal.loop-place-preserved
loop-place-preserved c =
    let C = IsCompoundFaultOfBody c.args.bodies.now c.args.scopes.now.scopes.items c.args.ports.now in let i = c.loop-place.place in
    subst (IsLeast (Among C (i + 1))) (sym c.first_of-first.ensures)
    (among-next C i c.loop-place.first c.first_of.result c.loop-place.invariant
    (body-here c.args.bodies.now c.args.scopes.now.scopes.items c.args.ports.now i c.in_scope-inside.result c.wrong_ports-gap.result c.first_of.result
    c.in_scope-inside.ensures c.wrong_ports-gap.ensures c.first_of.ensures))

pub returns : goal.returns
returns c =
    among-all (IsCompoundFaultOfBody c.args.bodies.now c.args.scopes.now.scopes.items c.args.ports.now) c.loop-place.place _ c.loop-place.first
    (let a = c.loop-place.auto.place-end in let t = c.loop-place-test.false in omega (arith, a, t)) c.loop-place.invariant
