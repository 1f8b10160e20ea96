use Rattle.std.proofs.Common.{refl, arith}
use denote.Param.Always.{mut_next}
use Rattle.click_links.proofs.DatagramFates.{received_step, steps_small, below_more}
use Rattle.click_links.proofs.receiver.receive_with.Goals as goal

pub receive_next-requires : goal.receive_next-requires
receive_next-requires g c = below_more _ _ _ c.loop.invariant.below (omega (arith, c.loop-test.true))

pub loop-preserved : goal.loop-preserved
loop-preserved g c =
    let h = c.loop.invariant in
    record {
      received = received_step _ _ _ _ _ _ _ _ h.received c.in-Ok.ensures.ok;
      below = steps_small _ _ _ _ _ _ _ h.below c.in-Ok.ensures.ok;
      callable = mut_next g.F.FnMut _ _ _ _ _ c.tell.ensures refl h.callable;
    }
