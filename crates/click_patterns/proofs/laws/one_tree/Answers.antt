use Rattle.click_patterns.proofs.OneTree.{one_tree}
use Rattle.click_patterns.proofs.laws.one_tree.Goals as goal

pub returns : goal.returns
returns c = one_tree
