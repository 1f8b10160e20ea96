use Rattle.std.proofs.Common.{subst}
use Rattle.click_control.specs.Serving.{WentThrough, most_reads}
use Rattle.click_workers.specs.Gates.{AsksGate, TellsGate}
use Rattle.click_workers.specs.Seats.{SeatServes}
use Rattle.click_workers.proofs.session.serve_entrant.Goals as goal

pub returns-clause-attends : goal.returns-clause-attends
returns-clause-attends g c = (
  c.in-Some.reader,
  c.in-Some.writer,
  c.serve_observed-ended.new.reader,
  c.serve_observed-ended.new.writer,
  c.serve_observed-ended.new.turns,
  c.in-Some.ensures,
  subst (λ p. SeatServes c.args.service.now.readonly most_reads (WentThrough (AsksGate g.G.Gate.gives) (TellsGate g.G.Gate.told) p c.serve_observed-ended.new.turns)
      c.args.seat c.serve_observed-ended.result.1 (g.D.Reader.Source.input c.in-Some.reader) (g.D.Reader.Source.input c.serve_observed-ended.new.reader)
      (g.D.Writer.Sink.output c.in-Some.writer) (g.D.Writer.Sink.output c.serve_observed-ended.new.writer) c.serve_observed-ended.result.0) c.new-turns.ensures (rw (c.begin.ensures, c.new.ensures) at c.serve_observed-ended.ensures),
)
