use Rattle.std.proofs.Common.{inl}
use Rattle.click_prog.proofs.serving.serve_all.Goals as goal

pub returns-in-Ok : goal.returns-in-Ok
returns-in-Ok g c = rw (← c.plan.view_is) (inl (record {
  gate = _;
  book = c.in-Ok.all.book;
  headline = c.in-Ok.ensures.headline;
  ended = c.in-Ok.all.ended.items;
  drivers = c.in-Ok.all.drivers.items;
  worked = c.in-Ok.ensures.worked;
  is = c.conclude.ensures;
}))
