use Rattle.click_router.proofs.OfCalls.RouterOrder.{opened-in-order, answered-in-order}
use Rattle.click_router.proofs.laws.routers_stay_in_order.Goals as goal

pub returns : goal.returns
returns c = record { opened = opened-in-order; answered = answered-in-order }
