use Rattle.std.proofs.Common.{◌≡◌, ◌<◌, List, [], length, map, arith, ap, subst, sym, ◌∙◌, length-append}
use Rattle.std.specs.List.{All}
use Rattle.click_desk.specs.SeatStates.{SeatState, new_seat}
use Rattle.click_workers.specs.Seats.{IsOf}
use Rattle.click_workers.proofs.WholeRuns.{headline-of}
use Rattle.click_workers.proofs.NewSeats.{once-of}
use Rattle.click_workers.proofs.run_seats.finish.Goals as goal

pub close_and_check-book-requires-clause-seats : goal.close_and_check-book-requires-clause-seats
close_and_check-book-requires-clause-seats g c = subst (λ (l : List SeatState). All (λ (s : SeatState). s.desk ≡ c.args.desk) l) (sym c.give.ensures.given) c.requires.seats

pub close_and_check-book-requires-clause-once : goal.close_and_check-book-requires-clause-once
close_and_check-book-requires-clause-once g c =
    once-of c.args.desk c.args.desk.options.seats c.give.new.to.items (ap (map (λ (s : SeatState). s.number)) c.give.ensures.given ∙ c.requires.numbers)

pub close_and_check-book-requires-clause-some : goal.close_and_check-book-requires-clause-some
close_and_check-book-requires-clause-some g c =
    omega (arith, c.requires.some, c.args.run_seats.work.seats.ok.0, ap length c.give.ensures.given, length-append c.args.run_seats.work.seats.items (g.H.SeatGroup.sittings c.args.run_seats.beside))

pub returns-clause-headline : goal.returns-clause-headline
returns-clause-headline g c = λ feeds room text n of options.
    let closes = c.close_and_check-book.ensures.closes in
    let desk = c.args.desk in
    let seats = c.give.new.to.items in
    let all = subst (λ (l : List SeatState). All (IsOf desk feeds) l) (sym c.give.ensures.given) of in
    let some : 0 < length seats =
    omega (arith, c.requires.some, c.args.run_seats.work.seats.ok.0, ap length c.give.ensures.given, length-append c.args.run_seats.work.seats.items (g.H.SeatGroup.sittings c.args.run_seats.beside)) in
    let once = once-of desk desk.options.seats seats (ap (map (λ (s : SeatState). s.number)) c.give.ensures.given ∙ c.requires.numbers) in
    let blank : SeatState = new_seat desk [] 0 in
    (headline-of feeds room text n desk seats c.close_and_check-book.result.0 options some all once closes, sym (closes.feeds blank) ∙ (all 0 blank some).1)

pub returns-clause-seats : goal.returns-clause-seats
returns-clause-seats g c = c.close_and_check-book.ensures.closes.seats_are ∙ c.give.ensures.given
