use Rattle.click_workers.proofs.SeatLists.{serves-seat}
use Rattle.click_workers.proofs.session.serve_observed.Goals as goal

pub returns : goal.returns
returns g c = rw (c.into_seat-seat.ensures, c.end.ensures) (serves-seat _ _ _ _ _ _ _ _ _ _ c.serve_turns-ended.ensures)
