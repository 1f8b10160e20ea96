use Rattle.std.proofs.Common.{◌≡◌}
use Rattle.click_tests.proofs.feeds.poll_all.Given as goal

abbrev pub invariant-loop : goal.invariant-loop
invariant-loop g l = record {
  desk : l.seat.desk ≡ l.fn.seat.desk;
  feeds : l.seat.feeds ≡ l.fn.seat.feeds;
}
