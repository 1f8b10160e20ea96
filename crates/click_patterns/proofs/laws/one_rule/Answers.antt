use Rattle.click_patterns.proofs.OneTree.{one_tree}
use Rattle.click_patterns.proofs.laws.one_rule.Goals as goal

pub returns : goal.returns
returns c text a b t u (e, p) (f, q) = (cc, one_tree _ t u p q)
