use Rattle.std.proofs.Common.{◌+◌, sym, subst, ◌∙◌, arith}
use Rattle.click_links.specs.declared.turns.Tally.{Tally}
use Rattle.click_links.specs.Turns.{SendsSo}
use Rattle.click_links.proofs.PacketTallies.{so_more, so_small, until_none, breaks_after}
use Rattle.click_links.proofs.turns.send_all.Goals as goal

pub add-requires : goal.add-requires
add-requires g c =
    let s = so_small _ _ _ _ _ _ _ c.loop.invariant.sends in
    (omega (arith, s.0, c.loop-test.true), omega (arith, s.1, c.loop-test.true))

pub returns-in-Ok-None-clause-ok : goal.returns-in-Ok-None-clause-ok
returns-in-Ok-None-clause-ok g c =
    let h = rw c.in-Ok-None.field-0-is at c.in-Ok-None.ensures.ok in
    until_none _ _ _ _ _ _ _ _ _ h.0 c.loop.invariant.sends c.loop-test.true h.1 h.2 h.3

pub returns-in-Err-clause-err : goal.returns-in-Err-clause-err
returns-in-Err-clause-err g c =
    breaks_after _ _ _ _ _ _ _ _ _ c.loop.invariant.sends c.loop-test.true c.in-Err.ensures.err.0 c.in-Err.ensures.err.1

pub loop-preserved : goal.loop-preserved
loop-preserved g c =
    let h = rw c.in-Ok-Some.field-0-is at c.in-Ok-Some.ensures.ok in
    record {
      same = (c.send_one.ensures.same.0 ∙ c.loop.invariant.same.0, c.send_one.ensures.same.1 ∙ c.loop.invariant.same.1, c.send_one.ensures.same.2 ∙ c.loop.invariant.same.2);
      sends = subst
          (λ (n : Tally). SendsSo c.args.device.now.name c.args.seat.now.calls c.send_one.new.seat.calls (g.S.Outbound.attempts c.args.sender.now) (g.S.Outbound.attempts c.send_one.new.sender) (c.loop.counter + 1) n)
          (sym c.add.ensures) (so_more _ _ _ _ _ _ _ _ _ h.0 _ c.loop.invariant.sends h.1);
    }
