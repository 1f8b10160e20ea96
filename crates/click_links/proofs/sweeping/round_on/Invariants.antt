use Rattle.click_links.specs.Turns.{SameSeat}
use Rattle.click_links.specs.Sweeps.{Rounds}
use Rattle.click_links.proofs.sweeping.round_on.Given as goal

abbrev pub invariant-loop-count : goal.invariant-loop-count
invariant-loop-count g l = record {
  same : SameSeat l.initial.seat l.seat;
  rounds : Rounds l.initial.seat.calls l.seat.calls l.count;
}
