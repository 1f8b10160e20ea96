use Rattle.click_router.proofs.OfCalls.SameNames.{takes_from_itself}
use Rattle.click_router.proofs.laws.same_names_take_over_from_themselves.Goals as goal

pub returns : goal.returns
returns c = takes_from_itself
