use Rattle.std.proofs.Common.{◌≡◌, inl, ap, ◌∙◌}
use Rattle.click_prog.specs.Paging.{room_of, rounds_of}
use Rattle.click_prog.specs.Running.{Planned}
use Rattle.click_prog.proofs.paging.serve_paged.Goals as goal

pub returns-in-Ok : goal.returns-in-Ok
returns-in-Ok g c =
    let k = c.clients_of-clients.ensures in
    let room : c.room_of.result ≡ room_of c.args.setup.plan.live = c.room_of.ensures ∙ ap (λ (p : Planned). room_of p.live) c.plan.view_is in
    let rounds : c.rounds_of-rounds.result ≡ rounds_of c.args.setup.plan.live c.args.setup.plan.rounds =
    c.rounds_of-rounds.ensures ∙ ap (λ (p : Planned). rounds_of p.live p.rounds) c.plan.view_is in
    let readonly : c.plan.inside.readonly ≡ c.args.setup.plan.readonly = ap (λ (p : Planned). p.readonly) c.plan.view_is in
    inl (record {
      gate = c.clients_of-clients.result.gate.now;
      book = c.in-Ok.field-0.all.book;
      headline = rw (room, k.plan.1, k.plan.2) at c.in-Ok.ensures.headline;
      ended = c.in-Ok.field-0.all.ended.items;
      drivers = c.in-Ok.field-0.all.drivers.items;
      done = c.in-Ok.field-0.done;
      work = rw (rounds, readonly, k.door, k.turns, k.plan.0, k.plan.1, k.plan.2) at c.in-Ok.ensures.work;
      is = c.conclude.ensures;
    })
