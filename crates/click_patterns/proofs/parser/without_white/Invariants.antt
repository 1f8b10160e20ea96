use Rattle.std.proofs.Common.{◌≡◌, drop}
use Rattle.click_patterns.specs.Arguments.{without_white}
use Rattle.click_patterns.proofs.parser.without_white.Given as goal

abbrev pub invariant-loop-i : goal.invariant-loop-i
invariant-loop-i l = without_white (drop l.i l.text) ≡ without_white l.text
