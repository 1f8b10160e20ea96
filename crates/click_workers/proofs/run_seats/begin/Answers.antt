use Rattle.std.proofs.Common.{◌+◌, ◌∙◌, List, length, arith, ap, subst, sym}
use Rattle.std.specs.List.{All}
use Rattle.click_desk.specs.SeatStates.{SeatState, seats_below}
use Rattle.click_workers.specs.Seats.{IsOf}
use Rattle.click_workers.proofs.OtherSeats.{taken}
use Rattle.click_workers.proofs.NewSeats.{new-of, seats-many, ready-first}
use Rattle.click_workers.proofs.run_seats.begin.Goals as goal

pub take-beside-requires : goal.take-beside-requires
take-beside-requires g c =
    let feeds = c.args.inlets.items in
    let desk = c.in-Ok-open_with.opened.desk in
    let many = c.args.sessions + c.args.workers + g.H.SeatGroup.many in
    omega (arith, ap length (c.in-Ok-open_with.ensures.seats.0 ∙ ap (seats_below desk feeds) c.with_others-many.ensures), seats-many desk feeds many)

pub returns-clause-desk : goal.returns-clause-desk
returns-clause-desk g c =
    let is = c.in-Ok-open_with.ensures.desk in
    (is.0, is.1, is.2 ∙ c.with_others-many.ensures)

pub returns-clause-count : goal.returns-clause-count
returns-clause-count g c =
    let n = c.args.sessions + c.args.workers in
    let feeds = c.args.inlets.items in
    let desk = c.in-Ok-open_with.opened.desk in
    let new = c.in-Ok-open_with.ensures.seats.0 ∙ ap (seats_below desk feeds) c.with_others-many.ensures in
    let parts = taken desk feeds n g.H.SeatGroup.many c.in-Ok-open_with.opened.seats.items c.take-beside.new.from.items (g.H.SeatGroup.sittings c.take-beside.result) new c.take-beside.ensures.taken c.take-beside.ensures.count in
    omega (arith, c.take-beside.new.from.ok.0, ap length parts.0, seats-many desk feeds n)

pub returns-clause-of : goal.returns-clause-of
returns-clause-of g c =
    let n = c.args.sessions + c.args.workers in
    let feeds = c.args.inlets.items in
    let desk = c.in-Ok-open_with.opened.desk in
    let new = c.in-Ok-open_with.ensures.seats.0 ∙ ap (seats_below desk feeds) c.with_others-many.ensures in
    let parts = taken desk feeds n g.H.SeatGroup.many c.in-Ok-open_with.opened.seats.items c.take-beside.new.from.items (g.H.SeatGroup.sittings c.take-beside.result) new c.take-beside.ensures.taken c.take-beside.ensures.count in
    subst (λ (l : List SeatState). All (IsOf desk feeds) l) (sym parts.0) (new-of desk feeds n)

pub returns-clause-ready : goal.returns-clause-ready
returns-clause-ready g c =
    let n = c.args.sessions + c.args.workers in
    let feeds = c.args.inlets.items in
    let desk = c.in-Ok-open_with.opened.desk in
    let new = c.in-Ok-open_with.ensures.seats.0 ∙ ap (seats_below desk feeds) c.with_others-many.ensures in
    let parts = taken desk feeds n g.H.SeatGroup.many c.in-Ok-open_with.opened.seats.items c.take-beside.new.from.items (g.H.SeatGroup.sittings c.take-beside.result) new c.take-beside.ensures.taken c.take-beside.ensures.count in
    ready-first desk feeds c.args.sessions c.args.workers _ _ _ _ _ _ parts.0 (returns-clause-count g c)
    c.in-Ok.ensures.items c.in-Ok-with_capacity.ensures.items c.in-Ok.ensures.exact c.in-Ok-with_capacity.ensures.exact

pub returns-clause-beside : goal.returns-clause-beside
returns-clause-beside g c =
    let n = c.args.sessions + c.args.workers in
    let feeds = c.args.inlets.items in
    let desk = c.in-Ok-open_with.opened.desk in
    let new = c.in-Ok-open_with.ensures.seats.0 ∙ ap (seats_below desk feeds) c.with_others-many.ensures in
    (taken desk feeds n g.H.SeatGroup.many c.in-Ok-open_with.opened.seats.items c.take-beside.new.from.items (g.H.SeatGroup.sittings c.take-beside.result) new c.take-beside.ensures.taken c.take-beside.ensures.count).1
