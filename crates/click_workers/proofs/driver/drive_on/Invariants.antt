use Rattle.std.proofs.Common.{◌≡◌, true}
use Rattle.click_workers.specs.Seats.{SameSeat}
use Rattle.click_workers.specs.Work.{Drives}
use Rattle.click_workers.proofs.driver.drive_on.Given as goal

abbrev pub invariant-loop-nth : goal.invariant-loop-nth
invariant-loop-nth g l =
    record {
      same : SameSeat l.fn.seat l.seat;
      desk : l.seat.desk ≡ l.desk;
      drives : Drives g.G.Gate.gives g.G.Gate.told l.gate l.who l.nth l.seat true;
    }
