use Rattle.click_patterns.proofs.RuleReading.{same_truth, same_decision}
use Rattle.click_patterns.proofs.laws.flat_forms_mean_their_trees.Goals as goal

pub returns : goal.returns
returns c = record { truth = λ t b. same_truth t b; decision = λ rs b. same_decision rs b }
