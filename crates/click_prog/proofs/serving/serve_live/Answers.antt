use Rattle.std.proofs.Common.{inl, ap, ◌∙◌}
use Rattle.click_prog.specs.Statuses.{sessions_status}
use Rattle.click_prog.proofs.serving.serve_live.Goals as goal

pub returns-in-Ok : goal.returns-in-Ok
returns-in-Ok g c =
    let k = c.clients_of-clients.ensures in
    rw (← k.door, ← k.turns, ← k.plan.0, ← k.plan.1, ← k.plan.2) (inl (record {
      gate = _;
      book = c.in-Ok.ran.book;
      headline = c.in-Ok.ensures.headline;
      ended = c.in-Ok.ran.ended.items;
      drivers = c.in-Ok.ran.drivers.items;
      worked = c.in-Ok.ensures.worked;
      is = c.sessions_status.ensures ∙ ap sessions_status c.as_slice.ensures.value;
    }))
