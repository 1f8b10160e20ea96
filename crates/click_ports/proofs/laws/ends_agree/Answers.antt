use Rattle.click_ports.proofs.Lawfulness.{agree}
use Rattle.click_ports.proofs.laws.ends_agree.Goals as goal

pub returns : goal.returns
returns c = agree
