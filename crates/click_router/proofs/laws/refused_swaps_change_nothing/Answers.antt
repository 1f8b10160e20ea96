use Rattle.click_router.proofs.OfCalls.OneOutcome.{unchanged}
use Rattle.click_router.proofs.laws.refused_swaps_change_nothing.Goals as goal

pub returns : goal.returns
returns c = unchanged
