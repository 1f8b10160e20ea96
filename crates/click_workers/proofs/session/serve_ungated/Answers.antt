use Rattle.click_workers.proofs.SeatLists.{serves-seat}
use Rattle.click_workers.proofs.session.serve_ungated.Goals as goal

pub returns : goal.returns
returns g c = rw c.into_seat.ensures (serves-seat _ _ _ _ _ _ _ _ _ _ c.serve-ended.ensures)
