use Rattle.std.proofs.Common.{◌≡◌}
use Rattle.click_workers.specs.Seats.{SameSeat}
use Rattle.click_workers.specs.Work.{Attends, InTurn}
use Rattle.click_workers.proofs.session.serve_slot.Given as goal

abbrev pub invariant-loop-nth : goal.invariant-loop-nth
invariant-loop-nth g l =
    record {
      same : SameSeat l.fn.seat l.seat;
      desk : l.seat.desk ≡ l.desk;
      attends : InTurn (Attends g.D.Door.lets_in g.D.Reader.Source.input g.D.Writer.Sink.output g.G.Gate.gives g.G.Gate.told l.door l.gate l.service.readonly l.who) l.nth l.fn.seat l.seat l.last;
    }
