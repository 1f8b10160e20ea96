use Rattle.click_http.proofs.Leadings.{leads_then}
use Rattle.click_http.specs.Leading.{calls_of}
use Rattle.click_http.proofs.serving.serve_until.Goals as goal

pub returns-in-Some-ended-clause-led : goal.returns-in-Some-ended-clause-led
returns-in-Some-ended-clause-led g c =
    let all = leads_then g.S.Service.answers _ _ _ c.loop.invariant c.serve_unless-ended.ensures.leads in (calls_of all.stretches, all.chain)

pub returns-in-Some-ended-clause-leads : goal.returns-in-Some-ended-clause-leads
returns-in-Some-ended-clause-leads g c = leads_then g.S.Service.answers _ _ _ c.loop.invariant c.serve_unless-ended.ensures.leads

pub loop-preserved : goal.loop-preserved
loop-preserved g c = leads_then g.S.Service.answers _ _ _ c.loop.invariant c.serve_unless-ended.ensures.leads
