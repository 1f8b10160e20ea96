use Rattle.std.proofs.Common.{◌∙◌, refl, inr}
use Rattle.click_http.proofs.Leadings.{leads_by}
use Rattle.click_http.proofs.peer.Peer.read.Goals as goal

pub returns-after-count-eq0-clause-leads : goal.returns-after-count-eq0-clause-leads
returns-after-count-eq0-clause-leads g c =
    leads_by g.S.Service.answers _ c.advance.new.self _ _ (c.advance.ensures.config ∙ (c.read_from.ensures.config ∙ c.args.self.now.limits)) c.advance.ensures.calls

pub returns-after-count-eq0-clause-more : goal.returns-after-count-eq0-clause-more
returns-after-count-eq0-clause-more g c = λ _. record { readable = refl; writable = refl; rests = inr c.advance.ensures.rests }
