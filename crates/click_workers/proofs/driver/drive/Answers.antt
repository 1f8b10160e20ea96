use Rattle.std.proofs.Common.{refl, ◌∙◌}
use Rattle.click_workers.proofs.DriverRounds.{none-driven, one-driven, held-back}
use Rattle.click_workers.proofs.driver.drive.Goals as goal

pub loop-nth-init : goal.loop-nth-init
loop-nth-init g c = record {
  same = (refl, refl, refl);
  desk = c.requires.desk;
  drives = none-driven g.G.Gate.gives g.G.Gate.told c.args.gate.now c.args.who c.args.seat c.requires.fresh;
}

pub loop-nth-preserved : goal.loop-nth-preserved
loop-nth-preserved g c =
    let h = c.loop-nth.invariant in
    let same = c.take_turn.ensures.same in
    record {
      same = (same.0 ∙ h.same.0, same.1 ∙ h.same.1, same.2 ∙ h.same.2);
      desk = same.0 ∙ h.desk;
      drives = one-driven g.G.Gate.gives g.G.Gate.told c.args.gate.now c.args.who c.loop-nth.nth c.loop-nth.seat c.take_turn.new.seat h.drives c.in-Some.ensures.turn;
    }

pub returns-in-None-clause-drives : goal.returns-in-None-clause-drives
returns-in-None-clause-drives g c =
    held-back g.G.Gate.gives g.G.Gate.told c.args.gate.now c.args.who c.loop-nth.nth c.args.rounds c.loop-nth.seat c.take_turn.new.seat c.loop-nth.invariant.drives
    c.loop-nth-test.true c.in-None.ensures.turn
