use Rattle.std.proofs.Common.{List, length}
use Rattle.click_filter.specs.Rules.{Ruling, AreRules}
use Rattle.click_filter.specs.Programs.{decides, size}
use Rattle.click_filter.proofs.RuleLists.{Split}
use Rattle.click_filter.proofs.list.program_of.Given as goal

abbrev pub invariant-loop-rule : goal.invariant-loop-rule
invariant-loop-rule l = (rs : List Ruling) → AreRules l.fn.rules.items rs → Split l.rules.items rs (decides l.program) (size l.program)

abbrev pub decreases-loop-rule : goal.decreases-loop-rule
decreases-loop-rule l = length l.rules.items
