use Rattle.std.proofs.Common.{◌≡◌}
use Rattle.click_tests.proofs.feeds.poll_each.Given as goal

abbrev pub invariant-loop-letter : goal.invariant-loop-letter
invariant-loop-letter g l = record {
  desk : l.seat.desk ≡ l.fn.seat.desk;
  feeds : l.seat.feeds ≡ l.fn.seat.feeds;
}
