use Rattle.click_workers.proofs.SeatLists.{asked-grows}
use Rattle.click_workers.proofs.laws.a_seat_grows_by_its_asks.Goals as goal

pub returns : goal.returns
returns c = asked-grows
