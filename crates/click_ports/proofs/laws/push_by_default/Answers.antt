use Rattle.click_ports.proofs.Lawfulness.{ring-push}
use Rattle.click_ports.proofs.laws.push_by_default.Goals as goal

pub returns-clause-ring : goal.returns-clause-ring
returns-clause-ring c = λ ss cs ring a k p t. ring-push ss cs ring a k p t
