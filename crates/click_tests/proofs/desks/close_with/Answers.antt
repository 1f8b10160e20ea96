use Rattle.std.proofs.Common.{[], sym, ◌∙◌, arith}
use Rattle.click_desk.specs.SeatStates.{SeatState, new_seat}
use Rattle.click_tests.proofs.desks.close_with.Goals as goal

pub close-requires : goal.close-requires
close-requires g c = λ k d below. (c.requires.seats k d below).0

pub returns-in-Ok-clause-feeds : goal.returns-in-Ok-clause-feeds
returns-in-Ok-clause-feeds g c =
    let s : SeatState = new_seat c.args.desk [] 0 in
    sym (c.in-Ok.ensures.ok.1.feeds s) ∙ (c.requires.seats 0 s (omega (arith, c.requires.some, c.args.seats.ok.0))).1
