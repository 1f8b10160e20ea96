use Rattle.click_router.proofs.OfOpenings.OneFault.{opened_has_no_fault}
use Rattle.click_router.proofs.laws.opened_has_no_fault.Goals as goal

pub returns : goal.returns
returns c = opened_has_no_fault
