use Rattle.click_router.proofs.OfOpenings.OneOpening.{opened_once}
use Rattle.click_router.proofs.laws.opens_once.Goals as goal

pub returns : goal.returns
returns c = opened_once
