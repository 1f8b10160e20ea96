use Rattle.click_workers.proofs.WholeRuns.{one-seat}
use Rattle.click_workers.proofs.laws.one_seat_is_one_thread.Goals as goal

pub returns : goal.returns
returns c = one-seat
