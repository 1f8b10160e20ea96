use Rattle.std.proofs.Common.{List, Some, sym, subst}
use Rattle.std.specs.List.{All}
use Rattle.std.proofs.lemmas.List.Elements.{All-pop, All-push}
use Rattle.click_desk.specs.SeatStates.{SeatState}
use Rattle.click_player.specs.Belonging.{Belongs}
use Rattle.click_player.proofs.seated.join.Goals as goal

pub loop-seat-preserved : goal.loop-seat-preserved
loop-seat-preserved g c =
    let P : SeatState → Type 0 = λ s. Belongs c.args.desk.now c.args.drivers.now.items s in
    let popped = All-pop P c.loop-seat.others.items c.pop.new.self.items (Some c.in-Some.seat) c.in-Some.ensures.items c.loop-seat.invariant.1 in
    (subst (λ (l : List SeatState). All P l) (sym c.in_ok-push.ensures.items) (All-push P c.loop-seat.seats.items c.in-Some.seat c.loop-seat.invariant.0 popped.1), popped.0)
