use Rattle.click_ports.proofs.Lawfulness.{order-free}
use Rattle.click_ports.proofs.laws.order_is_free.Goals as goal

pub returns : goal.returns
returns c = order-free
