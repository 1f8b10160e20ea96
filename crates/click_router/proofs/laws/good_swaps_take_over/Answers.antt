use Rattle.click_router.proofs.OfCalls.OneOutcome.{done}
use Rattle.click_router.proofs.laws.good_swaps_take_over.Goals as goal

pub returns : goal.returns
returns c = done
