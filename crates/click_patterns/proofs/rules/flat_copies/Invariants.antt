use Rattle.std.proofs.Common.{◌≡◌, ◌++◌, map, drop}
use Rattle.click_patterns.specs.kept.Flat.{flat_of}
use Rattle.click_patterns.proofs.rules.flat_copies.Given as goal

abbrev pub invariant-loop-rule : goal.invariant-loop-rule
invariant-loop-rule l = l.copies ++ map flat_of (drop l.rule-index l.rules) ≡ map flat_of l.rules
