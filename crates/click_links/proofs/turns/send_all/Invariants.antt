use Rattle.click_links.specs.Turns.{SameSeat, SendsSo}
use Rattle.click_links.proofs.turns.send_all.Given as goal

abbrev pub invariant-loop : goal.invariant-loop
invariant-loop g l = record {
  same : SameSeat l.initial.seat l.seat;
  sends : SendsSo l.device.name l.initial.seat.calls l.seat.calls (g.S.Outbound.attempts l.initial.sender) (g.S.Outbound.attempts l.sender) l.counter l.tally;
}
