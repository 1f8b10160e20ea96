use Rattle.click_desk.proofs.LawfulHistories.{ends-in-order}
use Rattle.click_desk.proofs.laws.histories_end_in_order.Goals as goal

pub returns : goal.returns
returns c = ends-in-order
