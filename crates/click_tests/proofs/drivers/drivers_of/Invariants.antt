use Rattle.std.proofs.Common.{◌≡◌}
use Rattle.click_tests.proofs.drivers.drivers_of.Given as goal

abbrev pub invariant-loop-letter : goal.invariant-loop-letter
invariant-loop-letter l = l.drivers.items ≡ l.inlets.items
