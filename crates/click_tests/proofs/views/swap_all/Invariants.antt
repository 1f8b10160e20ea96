use Rattle.std.proofs.Common.{◌≡◌}
use Rattle.click_tests.proofs.views.swap_all.Given as goal

abbrev pub invariant-loop-number : goal.invariant-loop-number
invariant-loop-number g l = (l.seat.desk ≡ l.desk) × (l.view.board ≡ l.desk.options.origin)
