use Rattle.std.proofs.Common.{ap, inl, ◌∙◌}
use Rattle.click_prog.specs.Statuses.{sessions_status}
use Rattle.click_prog.proofs.linking.serve_with_companion.Goals as goal

pub returns-in-Ok : goal.returns-in-Ok
returns-in-Ok g c =
    let linked = rw c.in-Ok.is at c.join-ran.ensures.first.0 in
    inl (record {
      book = c.in-Ok.ran.book;
      ended = c.in-Ok.ran.ended.items;
      drivers = c.in-Ok.ran.drivers.items;
      after = c.in-Ok.ran.sender.tried;
      ends = c.in-Ok.ran.links.items;
      done = _;
      ran = linked;
      is = c.conclude.ensures ∙ ap sessions_status c.as_slice.ensures.value;
    })
