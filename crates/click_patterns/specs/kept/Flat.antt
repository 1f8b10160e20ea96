-- The flat form of a rule of the code.
use Rattle.click_filter.specs.declared.rule.Rule.{Rule}
use Rattle.click_patterns.specs.declared.rules.FlatRule.{FlatRule}

abbrev pub flat_of : Rule → FlatRule
flat_of rule = record { action = rule.action; nodes = rule.pattern.nodes.items }
