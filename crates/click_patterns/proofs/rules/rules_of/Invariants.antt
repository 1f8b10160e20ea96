use Rattle.std.proofs.Common.{length, ◌-◌}
use Rattle.click_patterns.proofs.RuleReading.{Reading}
use Rattle.click_patterns.proofs.rules.rules_of.Given as goal

abbrev pub invariant-texts : goal.invariant-texts
invariant-texts l = Reading l.form l.texts l.at l.rules.items

abbrev pub decreases-texts : goal.decreases-texts
decreases-texts l = length l.texts - l.at
