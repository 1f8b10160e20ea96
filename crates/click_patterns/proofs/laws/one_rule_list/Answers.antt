use Rattle.click_patterns.proofs.RuleReading.{one_rule_list}
use Rattle.click_patterns.proofs.laws.one_rule_list.Goals as goal

pub returns : goal.returns
returns c = λ form texts rs others h k. one_rule_list form texts rs others h k
