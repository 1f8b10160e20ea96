use Rattle.click_router.proofs.OfOpenings.OneFault.{first_fault_once}
use Rattle.click_router.proofs.laws.faults_once.Goals as goal

pub returns : goal.returns
returns c = first_fault_once
