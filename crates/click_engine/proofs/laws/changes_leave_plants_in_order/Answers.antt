use Rattle.click_engine.proofs.OfInvariants.FirstOrder.{taken-in-order, changed-in-order}
use Rattle.click_engine.proofs.laws.changes_leave_plants_in_order.Goals as goal

pub returns : goal.returns
returns c = record { taken = taken-in-order; changed = changed-in-order }
