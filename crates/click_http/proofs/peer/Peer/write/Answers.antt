use Rattle.std.proofs.Common.{◌∙◌}
use Rattle.click_http.proofs.Leadings.{leads_by}
use Rattle.click_http.proofs.peer.Peer.write.Goals as goal

pub returns-in-Ok-clause-leads : goal.returns-in-Ok-clause-leads
returns-in-Ok-clause-leads g c =
    leads_by g.S.Service.answers _ c.advance.new.self _ _ (c.advance.ensures.config ∙ (c.write_to.ensures.config ∙ c.args.self.now.limits)) c.advance.ensures.calls
