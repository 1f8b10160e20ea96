use Rattle.std.proofs.Common.{◌≡◌, ◌+◌, ◌∙◌, arith, append-nil, refl, subst}
use Rattle.click_workers.specs.Runs.{HeadlineFor}
use Rattle.click_workers.specs.Work.{AttendedInTurn, DroveFor}
use Rattle.click_workers.proofs.DriverEntries.{drivers-round}
use Rattle.click_workers.proofs.NewSeats.{drove-alone, worked-as}
use Rattle.click_workers.proofs.runs.run_alone.Goals as goal

pub returns-in-Ok-clause-headline : goal.returns-in-Ok-clause-headline
returns-in-Ok-clause-headline g c =
    let n = c.args.clients.places + c.args.clients.workers in
    let same : n + 0 ≡ n = omega arith in
    subst (λ k. HeadlineFor c.args.opening.room c.args.opening.text.now k c.in-Ok.ran.all.book) same c.in-Ok.ensures.headline

pub returns-in-Ok-clause-worked : goal.returns-in-Ok-clause-worked
returns-in-Ok-clause-worked g c =
    let attends = AttendedInTurn g.D.Door.lets_in g.D.Reader.Source.input g.D.Writer.Sink.output g.G.Gate.gives g.G.Gate.told c.args.clients.door.now c.args.clients.gate.now c.args.clients.readonly c.args.clients.turns in
    let drives = DroveFor g.G.Gate.gives g.G.Gate.told c.args.clients.gate.now c.args.rounds in
    let w = c.in-Ok.ensures.work in
    worked-as attends drives c.args.clients.places _ _ _ _ _ _ _ _ refl (w.parts ∙ append-nil w.served) refl refl w.worked

pub returns-in-Ok-clause-rounds : goal.returns-in-Ok-clause-rounds
returns-in-Ok-clause-rounds g c =
    let attends = AttendedInTurn g.D.Door.lets_in g.D.Reader.Source.input g.D.Writer.Sink.output g.G.Gate.gives g.G.Gate.told c.args.clients.door.now c.args.clients.gate.now c.args.clients.readonly c.args.clients.turns in
    let drives = DroveFor g.G.Gate.gives g.G.Gate.told c.args.clients.gate.now c.args.rounds in
    drivers-round attends drives (drove-alone g.G.Gate.gives g.G.Gate.told c.args.clients.gate.now c.args.rounds) c.args.clients.places c.args.clients.workers c.in-Ok.ran.all.book c.in-Ok.ran.all.ended.items c.in-Ok.ran.all.drivers.items
    (returns-in-Ok-clause-worked g c) c.in-Ok.ensures.headline.entered
