use Rattle.std.proofs.Common.{◌≡◌, max, drop}
use Rattle.click_patterns.specs.RuleLists.{outputs_of}
use Rattle.click_patterns.proofs.rules.outputs_of.Given as goal

abbrev pub invariant-loop-rule : goal.invariant-loop-rule
invariant-loop-rule l = max l.most (outputs_of (drop l.rule-index l.rules)) ≡ outputs_of l.rules
