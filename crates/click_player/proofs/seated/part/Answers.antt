use Rattle.std.proofs.Common.{List, Some, sym, subst}
use Rattle.std.specs.List.{All}
use Rattle.std.proofs.lemmas.List.Elements.{All-pop, All-push}
use Rattle.click_desk.specs.SeatStates.{SeatState}
use Rattle.click_player.specs.Belonging.{Belongs}
use Rattle.click_player.proofs.seated.part.Goals as goal

pub loop-seat-preserved-in-Continue-1 : goal.loop-seat-preserved-in-Continue-1
loop-seat-preserved-in-Continue-1 g c =
    let P : SeatState → Type 0 = λ s. Belongs c.args.desk.now c.args.drivers.now.items s in
    let popped = All-pop P c.loop-seat.seats.items c.pop.new.self.items (Some c.in-Some.seat) c.in-Some.ensures.items c.loop-seat.invariant.0 in
    (popped.0, subst (λ (l : List SeatState). All P l) (sym c.in_ok-push.ensures.items) (All-push P c.loop-seat.given.items c.in-Some.seat c.loop-seat.invariant.1 popped.1), c.loop-seat.invariant.2)

pub loop-seat-preserved : goal.loop-seat-preserved
loop-seat-preserved g c =
    let P : SeatState → Type 0 = λ s. Belongs c.args.desk.now c.args.drivers.now.items s in
    let popped = All-pop P c.loop-seat.seats.items c.pop.new.self.items (Some c.in-Some.seat) c.in-Some.ensures.items c.loop-seat.invariant.0 in
    (popped.0, c.loop-seat.invariant.1, subst (λ (l : List SeatState). All P l) (sym c.in_ok-push-2.ensures.items) (All-push P c.loop-seat.kept.items c.in-Some.seat c.loop-seat.invariant.2 popped.1))
