use Rattle.std.proofs.Common.{◌≡◌}
use Rattle.click_tests.proofs.seats.write_and_read.Given as goal

abbrev pub invariant-loop-turn : goal.invariant-loop-turn
invariant-loop-turn g l = l.seat.desk ≡ l.desk
