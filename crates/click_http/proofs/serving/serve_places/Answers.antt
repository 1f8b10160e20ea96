use Rattle.click_http.proofs.Leadings.{leads_none, leads_then}
use Rattle.click_http.proofs.serving.serve_places.Goals as goal

pub loop-place-init : goal.loop-place-init
loop-place-init g c = leads_none g.S.Service.answers _

pub returns-in_err-ended : goal.returns-in_err-ended
returns-in_err-ended g c = leads_then g.S.Service.answers _ _ _ c.loop-place.invariant c.give_turn.ensures

pub loop-place-preserved : goal.loop-place-preserved
loop-place-preserved g c = leads_then g.S.Service.answers _ _ _ c.loop-place.invariant c.give_turn.ensures
