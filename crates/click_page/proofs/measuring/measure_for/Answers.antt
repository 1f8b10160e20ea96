use Rattle.std.proofs.Common.{◌≢◌, List, [], None, refl}
use Rattle.click_control.specs.declared.command.Answer.{Answer}
use Rattle.click_page.specs.Metrics.{IsSurvey}
use Rattle.click_page.specs.declared.page_request.PageRequest.{PageRequest}
use Rattle.click_page.specs.declared.page_request.PageRequest.TheVariants as page_request
use Rattle.click_page.proofs.CommandCalls.{asked-none}
use Rattle.click_page.proofs.measuring.measure_for.Goals as goal

-- a request other than for metrics makes no survey
no-survey : (w : PageRequest) (answers : List Answer) → w ≢ page_request.Metrics → IsSurvey w answers None
no-survey page_request.Metrics answers other = absurd (other refl)
no-survey _ answers other = refl

pub returns-in_default : goal.returns-in_default
returns-in_default g c = record {
  survey = no-survey c.args.page_request.now c.args.answers.now c.in_default.not-Metrics;
  asked = λ readonly. asked-none g.P.Port.asks c.args.port.now c.new.result.items c.new.ensures.items readonly [] refl;
  unasked = tt;
}
