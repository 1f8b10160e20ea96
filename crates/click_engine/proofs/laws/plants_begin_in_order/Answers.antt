use Rattle.click_engine.proofs.OfInvariants.FirstOrder.{begins-in-order}
use Rattle.click_engine.proofs.laws.plants_begin_in_order.Goals as goal

pub returns : goal.returns
returns c = begins-in-order
