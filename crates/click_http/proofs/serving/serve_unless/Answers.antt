use Rattle.click_http.proofs.Leadings.{leads_none}
use Rattle.click_http.proofs.serving.serve_unless.Goals as goal

pub returns-then-stopped-clause-leads : goal.returns-then-stopped-clause-leads
returns-then-stopped-clause-leads g c = leads_none g.S.Service.answers _
