use Rattle.std.proofs.Common.{◌≡◌, subst, sym}
use Rattle.click_desk.specs.SeatStates.{SeatState}
use Rattle.click_prog.specs.Paging.{IsPaged}
use Rattle.click_prog.proofs.Paged.{page-same}
use Rattle.click_prog.proofs.paging.PagingCompanion.work.Given as given
use Rattle.click_prog.proofs.paging.PagingCompanion.work.Goals as goal

-- what the page did to the seat
paged : (g : given.Over) (c : goal.After-into_seat g) → IsPaged c.args.self.readonly c.args.self.http_listener.port c.args.seats c.into_seat.result
paged g c =
    subst (λ (s : SeatState). IsPaged c.args.self.readonly c.args.self.http_listener.port s c.into_seat.result) c.new-port.ensures
    (subst (λ (s : SeatState). IsPaged c.args.self.readonly c.args.self.http_listener.port c.new-port.result s) (sym c.into_seat.ensures) c.serve_page-ended.ensures)

pub returns-clause-same : goal.returns-clause-same
returns-clause-same g c = (page-same c.args.self.readonly c.args.self.http_listener.port c.args.seats c.into_seat.result (paged g c), tt)

pub returns-clause-does : goal.returns-clause-does
returns-clause-does g c = paged g c
