use Rattle.std.proofs.Common.{◌≡◌, ◌<◌, true, false, true≢false, Some, List, [], ◌∷◌, ◌++◌, map, length, refl, sym, ap, ◌∙◌, subst, arith}
use Rattle.std.specs.List.{All}
use Rattle.std.proofs.lemmas.List.Elements.{All-nil, All-push}
use Rattle.click_desk.specs.History.{Legal}
use Rattle.click_desk.specs.SeatStates.{SeatState, new_seat}
use Rattle.click_control.specs.Serving.{NoneRefused, most_reads}
use Rattle.click_workers.specs.Seats.{SeatServes, IsOf}
use Rattle.click_workers.specs.Runs.{entries_of}
use Rattle.click_desk.specs.Closing.{IsEachOnce}
use Rattle.click_workers.proofs.NewSeats.{last-new, once-of}
use Rattle.click_workers.proofs.WholeRuns.{headline-of, one-seat}
use Rattle.click_workers.proofs.runs.serve_and_close.Goals as goal

pub close_and_check-book-requires-clause-once : goal.close_and_check-book-requires-clause-once
close_and_check-book-requires-clause-once g c =
    let desk = c.args.opened.desk in
    let s = c.serve_ungated-ended.result.1 in
    let session = rw c.new-port.ensures at c.serve_ungated-ended.ensures in
    let seats = c.push_reserved.new.self.items in
    let taken = last-new desk [] 0 1 c.args.opened.seats.items c.pop.new.self.items c.in-Some.seat c.requires.seats c.in-Some.ensures.items refl in
    let items : seats ≡ s ∷ [] = c.push_reserved.ensures.items ∙ ap (λ l. l ++ s ∷ []) taken.0 in
    let number : s.number ≡ 0 = session.same.1 ∙ ap (λ (t : SeatState). t.number) taken.1 in
    let once : IsEachOnce 1 seats = once-of desk 1 seats (ap (λ l. map (λ (t : SeatState). t.number) l) items ∙ ap (λ n. n ∷ []) number) in
    subst (λ m. IsEachOnce m seats) (sym c.requires.many) once

pub returns-clause-headline : goal.returns-clause-headline
returns-clause-headline g c = λ text options.
    let closes = c.close_and_check-book.ensures.closes in
    let desk = c.args.opened.desk in
    let s = c.serve_ungated-ended.result.1 in
    let session = rw c.new-port.ensures at c.serve_ungated-ended.ensures in
    let taken = last-new desk [] 0 1 c.args.opened.seats.items c.pop.new.self.items c.in-Some.seat c.requires.seats c.in-Some.ensures.items refl in
    let items : c.push_reserved.new.self.items ≡ s ∷ [] = c.push_reserved.ensures.items ∙ ap (λ l. l ++ s ∷ []) taken.0 in
    let of : IsOf desk [] s = (session.same.0 ∙ ap (λ (t : SeatState). t.desk) taken.1, session.same.2 ∙ ap (λ (t : SeatState). t.feeds) taken.1) in
    let number : s.number ≡ 0 = session.same.1 ∙ ap (λ (t : SeatState). t.number) taken.1 in
    let first : IsEachOnce 1 c.push_reserved.new.self.items = once-of desk 1 c.push_reserved.new.self.items (ap (λ l. map (λ (t : SeatState). t.number) l) items ∙ ap (λ n. n ∷ []) number) in
    let once : IsEachOnce desk.options.seats c.push_reserved.new.self.items = subst (λ m. IsEachOnce m c.push_reserved.new.self.items) (sym c.requires.many) first in
    headline-of [] (Some 1048576) text 1 desk c.push_reserved.new.self.items c.close_and_check-book.result.0 options
    (subst (λ (l : List SeatState). 0 < length l) (sym items) (omega arith))
    (subst (λ (l : List SeatState). All (IsOf desk []) l) (sym items) (All-push (IsOf desk []) [] s (All-nil (IsOf desk [])) of)) once closes

pub returns-clause-served : goal.returns-clause-served
returns-clause-served g c = λ text options.
    let book = c.close_and_check-book.result.0 in
    let desk = c.args.opened.desk in
    let s = c.serve_ungated-ended.result.1 in
    let session = rw c.new-port.ensures at c.serve_ungated-ended.ensures in
    let closes = c.close_and_check-book.ensures.closes in
    let taken = last-new desk [] 0 1 c.args.opened.seats.items c.pop.new.self.items c.in-Some.seat c.requires.seats c.in-Some.ensures.items refl in
    let seats : book.seats ≡ s ∷ [] = closes.seats_are ∙ c.push_reserved.ensures.items ∙ ap (λ l. l ++ s ∷ []) taken.0 in
    let number : s.number ≡ 0 = session.same.1 ∙ ap (λ (t : SeatState). t.number) taken.1 in
    let same : s.desk ≡ desk = session.same.0 ∙ ap (λ (t : SeatState). t.desk) taken.1 in
    let fresh : c.in-Some.seat ≡ new_seat s.desk [] 0 = taken.1 ∙ ap (λ d. new_seat d [] 0) (sym same) in
    let headline = returns-clause-headline g c text options in
    record {
      seat = s;
      seats = seats;
      number = number;
      served = subst (λ o. SeatServes c.args.readonly most_reads NoneRefused o s (g.S.Source.input c.args.reader.now) (g.S.Source.input c.serve_ungated-ended.new.reader)
          (g.W.Sink.output c.args.writer.now) (g.W.Sink.output c.serve_ungated-ended.new.writer) c.serve_ungated-ended.result.0) fresh session;
      alone = subst (λ n. Legal text (entries_of n s.calls) book.router) number (one-seat text book s headline seats).1;
    }

pub unreachable-requires : goal.unreachable-requires
unreachable-requires g c =
    let some : false ≡ true = c.in_default.ensures.variant.1 (omega (arith, c.args.opened.seats.ok.0, ap length c.requires.seats)) in
    true≢false (sym some)

pub new-port-requires : goal.new-port-requires
new-port-requires g c =
    ap (λ (t : SeatState). t.desk) (last-new c.args.opened.desk [] 0 1 c.args.opened.seats.items c.pop.new.self.items c.in-Some.seat c.requires.seats c.in-Some.ensures.items refl).1
