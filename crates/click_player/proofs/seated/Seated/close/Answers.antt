use Rattle.std.proofs.Common.{◌<◌, [], length, slice_index_or, arith}
use Rattle.std.proofs.lemmas.Bool.Decides.{nat_tests}
use Rattle.click_desk.specs.SeatStates.{SeatState, new_seat}
use Rattle.click_player.proofs.Belonging.{closed_rings}
use Rattle.click_player.proofs.seated.Seated.close.Goals as goal

pub new-requires-clause-rings : goal.new-requires-clause-rings
new-requires-clause-rings g c =
    let blank : SeatState = new_seat c.self.inside.desk [] 0 in
    let some : 0 < length c.in_ok-given.given.items = grind (arith, nat_tests, c.in_ok-given.given.ok.0) in
    closed_rings c.self.inside.desk c.self.inside.drivers.items c.in_ok-finished-in-Ok.finished.items c.in-Ok.book.consumers (slice_index_or c.in_ok-given.given.items 0 blank) c.in_ok-finished-in-Ok.ensures (c.in-Ok.ensures.ok.1.feeds blank) (c.in_ok-given.ensures.0 0 blank some)
