use Rattle.std.proofs.Common.{inl}
use Rattle.click_prog.proofs.serving.serve_text.Goals as goal

pub returns-in-Ok : goal.returns-in-Ok
returns-in-Ok g c = rw (← c.plan.view_is) (inl (record {
  book = _;
  headline = c.in-Ok.ensures.headline;
  ended = _;
  ran = c.in-Ok.ensures.served;
  is = c.end_status.ensures;
}))
