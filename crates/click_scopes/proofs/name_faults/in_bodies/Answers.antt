use Rattle.std.proofs.Common.{length, arith}
use Rattle.click_scopes.proofs.OfFaults.PlaceNameFaults.{bodies-none, bodies-next, bodies-all}
use Rattle.click_scopes.proofs.name_faults.in_bodies.Goals as goal

pub loop-place-init : goal.loop-place-init
loop-place-init c = bodies-none c.args.config.now c.args.scopes.now.scopes.items

pub loop-place-preserved : goal.loop-place-preserved
loop-place-preserved c =
    bodies-next c.args.config.now c.args.scopes.now.scopes.items c.loop-place.place c.loop-place.first c.in_ok-found.found _ c.first_of-first.ensures c.in_ok-found.ensures c.loop-place.invariant

pub returns : goal.returns
returns c =
    bodies-all c.args.config.now c.args.scopes.now.scopes.items c.loop-place.place (length c.args.config.now.bodies) c.loop-place.first
    (let a = c.loop-place.auto.place-end in let t = c.loop-place-test.false in let n = c.len-place-end.ensures in omega (arith, a, t, n)) c.loop-place.invariant
