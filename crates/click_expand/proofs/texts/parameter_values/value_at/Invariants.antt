use Rattle.std.proofs.Common.{◌≤◌}
use Rattle.click_expand.proofs.OfTexts.ParameterParents.{SameValue}
use Rattle.click_expand.proofs.texts.parameter_values.value_at.Given as goal

abbrev pub invariant-lexical_parents : goal.invariant-lexical_parents
invariant-lexical_parents l = record { before : l.at ≤ l.from; same : SameValue l.config l.instances l.from l.at l.name }

abbrev pub decreases-lexical_parents : goal.decreases-lexical_parents
decreases-lexical_parents l = l.at
