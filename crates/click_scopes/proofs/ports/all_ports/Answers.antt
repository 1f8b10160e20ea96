use Rattle.std.proofs.Common.{subst, arith}
use Rattle.click_scopes.specs.kept.CompoundFaults.{inputs_kept, outputs_kept, IsPorts}
use Rattle.click_scopes.proofs.OfConnections.BodyPortCounts.{counted-first, counted-next, counted-all, body-ports}
use Rattle.click_scopes.proofs.ports.all_ports.Goals as goal

pub loop-place-init : goal.loop-place-init
loop-place-init c = counted-first c.args.config.now c.new-ports.result.items c.new-ports.ensures.items

pub loop-place-preserved : goal.loop-place-preserved
loop-place-preserved c =
    counted-next c.args.config.now c.loop-place.ports.items c.push.new.self.items c.loop-place.place c.ports_by.result
    (body-ports c.args.config.now c.requires.nested c.args.scopes.now.scopes.items c.requires.scopes.all c.loop-place.place c.ports_by.result
    (let t = c.loop-place-test.true in let e = c.len-place-end.ensures in omega (arith, t, e)) (subst (λ ks. IsPorts (inputs_kept ks) (outputs_kept ks) c.ports_by.result) c.connections_at.ensures c.ports_by.ensures))
    c.in_ok-push.ensures.items c.loop-place.invariant

pub returns : goal.returns
returns c = counted-all c.args.config.now c.loop-place.ports.items c.loop-place.place
    (let t = c.loop-place-test.false in let e = c.len-place-end.ensures in omega (arith, t, e)) c.loop-place.invariant
