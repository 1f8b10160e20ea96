use Rattle.std.proofs.Common.{take}
use Rattle.std.specs.List.{AllZip}
use Rattle.click_classes.specs.kept.Masks.{ArePatternTests}
use Rattle.click_classes.proofs.patterns.Patterns.of.Given as goal

abbrev pub invariant-loop-pattern : goal.invariant-loop-pattern
invariant-loop-pattern l = AllZip ArePatternTests (take l.pattern-index l.patterns) l.ready
