use Rattle.std.proofs.Common.{arith, ◌+◌, List, sym, subst, ◌∙◌, refl, vec_len}
use Rattle.std.specs.List.{All}
use Rattle.std.proofs.lemmas.List.Elements.{All-push}
use Rattle.click_desk.specs.SeatStates.{SeatState}
use Rattle.click_workers.proofs.NewSeats.{front-and-last, one-worked, worked-as}
use Rattle.click_workers.specs.Seats.{IsOf}
use Rattle.click_workers.proofs.work.+fn-work_all-join+arg3+work_all.Goals as goal

pub add-requires-clause-ended : goal.add-requires-clause-ended
add-requires-clause-ended g t c =
    let service = c.args.service.now in
    let is = rw c.in-Some.is at c.last_of-last.ensures.some in
    let all = one-worked g.D.Door.lets_in g.D.Reader.Source.input g.D.Writer.Sink.output g.G.Gate.gives g.G.Gate.told c.args.door.now c.args.gate.now service.readonly service.turns service.sessions service.rounds
    _ _ (vec_len c.last_of-last.result.1.seats) (c.len-who.result + 1) _ _ _ _ _ _ _ _ c.in-Some.seat c.join-seat.result.0.1 c.join-seat.result.0.0
    c.requires.ready is.1 (omega (arith, c.len-who.ensures)) is.0 c.join-seat.ensures.first.0 c.join-seat.ensures.first.1 c.join-seat.ensures.second.1 in
    omega (arith, all.1, c.last_of-last.ensures.room.1, c.join-seat.ensures.second.3, c.join-seat.result.1.ended.ok.0)

pub add-requires-clause-drivers : goal.add-requires-clause-drivers
add-requires-clause-drivers g t c =
    let service = c.args.service.now in
    let is = rw c.in-Some.is at c.last_of-last.ensures.some in
    let all = one-worked g.D.Door.lets_in g.D.Reader.Source.input g.D.Writer.Sink.output g.G.Gate.gives g.G.Gate.told c.args.door.now c.args.gate.now service.readonly service.turns service.sessions service.rounds
    _ _ (vec_len c.last_of-last.result.1.seats) (c.len-who.result + 1) _ _ _ _ _ _ _ _ c.in-Some.seat c.join-seat.result.0.1 c.join-seat.result.0.0
    c.requires.ready is.1 (omega (arith, c.len-who.ensures)) is.0 c.join-seat.ensures.first.0 c.join-seat.ensures.first.1 c.join-seat.ensures.second.1 in
    omega (arith, all.2, c.last_of-last.ensures.room.2, c.join-seat.ensures.second.4, c.join-seat.result.1.drivers.ok.0)

pub returns-clause-desk : goal.returns-clause-desk
returns-clause-desk g t c = λ feeds all.
    let is = rw c.in-Some.is at c.last_of-last.ensures.some in
    let parts = front-and-last (IsOf c.args.desk.now feeds) _ c.in-Some.seat (subst (λ (l : List SeatState). All (IsOf c.args.desk.now feeds) l) is.2 all) in
    subst (λ (l : List SeatState). All (IsOf c.args.desk.now feeds) l) (sym c.add.ensures.seats)
    (All-push (IsOf c.args.desk.now feeds) c.join-seat.result.1.seats.items c.join-seat.result.0.1 (c.join-seat.ensures.second.0 feeds parts.0)
    (c.join-seat.ensures.first.0.0 ∙ parts.1.0, c.join-seat.ensures.first.0.2 ∙ parts.1.1))

pub returns-clause-worked : goal.returns-clause-worked
returns-clause-worked g t c =
    let service = c.args.service.now in
    let is = rw c.in-Some.is at c.last_of-last.ensures.some in
    let all = one-worked g.D.Door.lets_in g.D.Reader.Source.input g.D.Writer.Sink.output g.G.Gate.gives g.G.Gate.told c.args.door.now c.args.gate.now service.readonly service.turns service.sessions service.rounds
    _ _ (vec_len c.last_of-last.result.1.seats) (c.len-who.result + 1) _ _ _ _ _ _ _ _ c.in-Some.seat c.join-seat.result.0.1 c.join-seat.result.0.0
    c.requires.ready is.1 (omega (arith, c.len-who.ensures)) is.0 c.join-seat.ensures.first.0 c.join-seat.ensures.first.1 c.join-seat.ensures.second.1 in
    worked-as _ _ service.sessions _ _ _ _ _ _ _ _ refl c.add.ensures.seats c.add.ensures.ended c.add.ensures.drivers all.0
