use Rattle.click_http.proofs.Leadings.{leads_none, leads_then}
use Rattle.click_http.proofs.peer.Peer.turn.Goals as goal

pub loop-init : goal.loop-init
loop-init g c = leads_none g.S.Service.answers _

pub loop-preserved : goal.loop-preserved
loop-preserved g c = leads_then g.S.Service.answers _ _ _ c.loop.invariant c.in-More.ensures.leads

pub returns-in-Wait-clause-leads : goal.returns-in-Wait-clause-leads
returns-in-Wait-clause-leads g c = leads_then g.S.Service.answers _ _ _ c.loop.invariant c.step.ensures.leads

pub returns-in-Over-clause-leads : goal.returns-in-Over-clause-leads
returns-in-Over-clause-leads g c = leads_then g.S.Service.answers _ _ _ c.loop.invariant c.step.ensures.leads
