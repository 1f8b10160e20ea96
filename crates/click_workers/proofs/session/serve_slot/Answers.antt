use Rattle.std.proofs.Common.{◌∙◌, arith}
use Rattle.click_workers.specs.Work.{Attends}
use Rattle.click_workers.proofs.NewSeats.{one-more}
use Rattle.click_workers.proofs.session.serve_slot.Goals as goal

pub loop-nth-preserved : goal.loop-nth-preserved
loop-nth-preserved g c =
    let h = c.loop-nth.invariant in
    let one = c.serve_entrant-end.ensures in
    record {
      same = (one.same.0 ∙ h.same.0, one.same.1 ∙ h.same.1, one.same.2 ∙ h.same.2);
      desk = one.same.0 ∙ h.desk;
      attends = one-more (Attends g.D.Door.lets_in g.D.Reader.Source.input g.D.Writer.Sink.output g.G.Gate.gives g.G.Gate.told c.args.door.now c.args.gate.now c.args.service.now.readonly c.args.who)
          c.loop-nth.nth c.args.seat c.loop-nth.seat c.serve_entrant-end.result.1 c.loop-nth.last c.serve_entrant-end.result.0 (omega arith) h.attends one.attends;
    }
