use Rattle.std.proofs.Common.{◌≡◌}
use Rattle.click_tests.proofs.drivers.Driver.drive.Given as goal

abbrev pub invariant-loop : goal.invariant-loop
invariant-loop l = l.self ≡ l.fn.self
