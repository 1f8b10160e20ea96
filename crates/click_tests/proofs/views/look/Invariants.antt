use Rattle.std.proofs.Common.{◌≡◌}
use Rattle.click_tests.proofs.views.look.Given as goal

abbrev pub invariant-loop : goal.invariant-loop
invariant-loop g l = l.view.board ≡ l.initial.view.board
