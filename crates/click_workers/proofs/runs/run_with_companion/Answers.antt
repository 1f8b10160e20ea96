use Rattle.std.proofs.Common.{◌≡◌, ◌⊎◌, ◌+◌, ◌∙◌, ℕ, Bor, List, length, option_map, arith, ap, subst, sym, refl}
use Rattle.std.specs.List.{All}
use Rattle.std.proofs.lemmas.Slice.Zip.{AllZip-long}
use Rattle.click_desk.specs.Openings.{IsViewFault}
use Rattle.click_desk.specs.SeatStates.{SeatState}
use Rattle.click_desk.specs.declared.open.OpenFault.TheVariants as told
use Rattle.click_rings.specs.Feeds.{FeedName}
use Rattle.click_workers.specs.Runs.{HeadlineWith, views_for}
use Rattle.click_workers.specs.Work.{AttendedInTurn, DroveFor, numbers_below}
use Rattle.click_workers.proofs.OtherSeats.{from-many, from-of, all-of, all-numbers}
use Rattle.click_workers.proofs.WholeRuns.{late-begun, true-begun, view-begun, few-views}
use Rattle.click_workers.proofs.NewSeats.{worked-as}
use Rattle.click_workers.proofs.runs.run_with_companion.Goals as goal

pub serve_with_companion-run_seats-requires-clause-of : goal.serve_with_companion-run_seats-requires-clause-of
serve_with_companion-run_seats-requires-clause-of g c κs within =
    let n = c.args.clients.places + c.args.clients.workers in
    let desk = c.in-Ok.begun.desk in
    let feeds = c.new-inlets.result.items in
    subst (λ (l : List SeatState). All (λ (s : SeatState). s.desk ≡ desk) l) (sym c.in-Ok.ensures.beside) (λ k d below. (from-of desk feeds n g.B.Seats.SeatGroup.many k d below).0)

pub finish-all-requires-clause-seats : goal.finish-all-requires-clause-seats
finish-all-requires-clause-seats g c κs within =
    let n = c.args.clients.places + c.args.clients.workers in
    let desk = c.in-Ok.begun.desk in
    let feeds = c.new-inlets.result.items in
    let s = c.serve_with_companion-run_seats.ensures in
    λ k d below. (all-of desk feeds n g.B.Seats.SeatGroup.many c.serve_with_companion-run_seats.result.0.work.seats.items (g.B.Seats.SeatGroup.sittings c.in-Ok.begun.run_seats.beside) (g.B.Seats.SeatGroup.sittings c.serve_with_companion-run_seats.result.0.beside) (s.desk feeds c.in-Ok.ensures.of) c.in-Ok.ensures.beside s.same k d below).0

pub finish-all-requires-clause-numbers : goal.finish-all-requires-clause-numbers
finish-all-requires-clause-numbers g c κs within =
    let n = c.args.clients.places + c.args.clients.workers in
    let s = c.serve_with_companion-run_seats.ensures in
    all-numbers c.in-Ok.begun.desk c.new-inlets.result.items n g.B.Seats.SeatGroup.many c.serve_with_companion-run_seats.result.0.work.seats.items (g.B.Seats.SeatGroup.sittings c.in-Ok.begun.run_seats.beside) (g.B.Seats.SeatGroup.sittings c.serve_with_companion-run_seats.result.0.beside) (s.worked.numbers ∙ ap numbers_below c.in-Ok.ensures.count) c.in-Ok.ensures.beside s.same
    ∙ ap numbers_below (sym c.in-Ok.ensures.desk.2)

pub finish-all-requires-clause-some : goal.finish-all-requires-clause-some
finish-all-requires-clause-some g c κs within =
    omega (arith, c.requires.many.0, c.in-Ok.ensures.count, c.serve_with_companion-run_seats.ensures.worked.many, c.serve_with_companion-run_seats.result.0.work.seats.ok.0)

pub finish-all-requires-clause-room : goal.finish-all-requires-clause-room
finish-all-requires-clause-room g c κs within =
    let n = c.args.clients.places + c.args.clients.workers in
    let s = c.serve_with_companion-run_seats.ensures in
    omega (
      arith,
      c.in-Ok.ensures.room,
      s.room,
      s.worked.many,
      c.serve_with_companion-run_seats.result.0.work.seats.ok.0,
      AllZip-long _ _ _ s.same,
      ap length c.in-Ok.ensures.beside,
      from-many c.in-Ok.begun.desk c.new-inlets.result.items n g.B.Seats.SeatGroup.many,
    )

pub returns-clause-headline : goal.returns-clause-headline
returns-clause-headline g c =
    let n = c.args.clients.places + c.args.clients.workers in
    let m = g.B.Seats.SeatGroup.many in
    let desk = c.in-Ok.begun.desk in
    let feeds = c.new-inlets.result.items in
    let s = c.serve_with_companion-run_seats.ensures in
    let all = all-of desk feeds n m c.serve_with_companion-run_seats.result.0.work.seats.items (g.B.Seats.SeatGroup.sittings c.in-Ok.begun.run_seats.beside) (g.B.Seats.SeatGroup.sittings c.serve_with_companion-run_seats.result.0.beside) (s.desk feeds c.in-Ok.ensures.of) c.in-Ok.ensures.beside s.same in
    subst (λ (fs : List FeedName). HeadlineWith fs c.args.opening.room c.args.opening.text.now (n + m) c.finish-all.result.book) c.new-inlets.ensures.items
    (c.finish-all.ensures.headline feeds c.args.opening.room c.args.opening.text.now (n + m) all c.in-Ok.ensures.desk).0

pub returns-clause-work : goal.returns-clause-work
returns-clause-work g c =
    let attends = AttendedInTurn g.D.Door.lets_in g.D.Reader.Source.input g.D.Writer.Sink.output g.G.Gate.gives g.G.Gate.told c.args.clients.door.now c.args.clients.gate.now c.args.clients.readonly c.args.clients.turns in
    let drives = DroveFor g.G.Gate.gives g.G.Gate.told c.args.clients.gate.now c.args.rounds in
    let s = c.serve_with_companion-run_seats.ensures in
    let told = c.of.ensures in
    let worked = rw (told.0, told.1, told.2, told.3) at s.worked in
    record {
      served = c.serve_with_companion-run_seats.result.0.work.seats.items;
      before = c.in-Ok.begun.run_seats.beside;
      after = c.serve_with_companion-run_seats.result.0.beside;
      parts = c.finish-all.ensures.seats;
      worked = worked-as attends drives c.args.clients.places _ _ _ _ _ _ _ _ (sym c.in-Ok.ensures.count) refl c.finish-all.ensures.rest.0 c.finish-all.ensures.rest.1 worked;
      fresh = (c.in-Ok.begun.desk, c.new-inlets.result.items, c.in-Ok.ensures.beside);
      same = s.same;
      does = s.does;
    }

pub fault_of-requires : goal.fault_of-requires
fault_of-requires g c =
    let n = c.args.clients.places + c.args.clients.workers + g.B.Seats.SeatGroup.many in
    let name = option_map (λ (b : Bor (List ℕ)). b.now) c.args.opening.check in
    let text = c.args.opening.text.now in
    let f = c.in-Err.fault in
    let P : List FeedName → Type 0 = λ fs. (f ≡ told.NoMemory) ⊎ IsViewFault n fs (views_for name) text f in
    late-begun n (views_for name) text f (omega (arith, c.requires.many.0)) c.requires.many.1 (few-views name) (subst P c.new-inlets.ensures.items c.in-Err.ensures.fault)

pub returns-in-Err-clause-config : goal.returns-in-Err-clause-config
returns-in-Err-clause-config g c =
    let n = c.args.clients.places + c.args.clients.workers + g.B.Seats.SeatGroup.many in
    let name = option_map (λ (b : Bor (List ℕ)). b.now) c.args.opening.check in
    let text = c.args.opening.text.now in
    let f = c.in-Err.fault in
    let P : List FeedName → Type 0 = λ fs. (f ≡ told.NoMemory) ⊎ IsViewFault n fs (views_for name) text f in
    true-begun n (views_for name) text f c.fault_of.result c.fault_of.ensures.config (subst P c.new-inlets.ensures.items c.in-Err.ensures.fault)

pub returns-in-Err-clause-view_asked : goal.returns-in-Err-clause-view_asked
returns-in-Err-clause-view_asked g c =
    let n = c.args.clients.places + c.args.clients.workers + g.B.Seats.SeatGroup.many in
    let name = option_map (λ (b : Bor (List ℕ)). b.now) c.args.opening.check in
    let text = c.args.opening.text.now in
    let f = c.in-Err.fault in
    let P : List FeedName → Type 0 = λ fs. (f ≡ told.NoMemory) ⊎ IsViewFault n fs (views_for name) text f in
    view-begun n name text f c.fault_of.result c.fault_of.ensures.view (subst P c.new-inlets.ensures.items c.in-Err.ensures.fault)
