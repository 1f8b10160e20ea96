-- A lemma on the answering of a request by the page.
use Rattle.std.proofs.Common.{◌≡◌, ℕ, List, Result, refl, subst}
use Rattle.http.specs.declared.request.Request.{Request}
use Rattle.http.specs.Request.{head_of, body_of}
use Rattle.http_server.specs.declared.response.Response.{Response}
use Rattle.click_router.specs.declared.call.Call.{Call}
use Rattle.click_router.specs.declared.call.Reply.{Reply}
use Rattle.click_control.specs.Serving.{Asked}
use Rattle.click_control.specs.declared.command.Answer.{Answer}
use Rattle.click_control.specs.declared.port.AskFault.{AskFault}
use Rattle.click_page.specs.Answering.{AnswersSo, Follows, Paged}
use Rattle.click_page.specs.Asking.{commands_of, parse_request}
use Rattle.click_page.specs.declared.page_request.PageRequest.{PageRequest}

-- the request was parsed, its calls were made, and then those that follow from their answers
pub page_answers : {P F : Type 0} (gives : F → List ℕ → Type 0) (asks : P → Call → Result Reply AskFault → P → Type 0) (page : Paged P F) (mid port : P) (page_request : PageRequest) (answers : List Answer)
    (request : Request (List ℕ)) (response : Response) → page_request ≡ parse_request page.at (head_of request) (body_of request)
    → Asked asks page.readonly page.port (commands_of page_request) answers mid → Follows (gives page.figures) asks page.readonly page_request answers mid response port
    → AnswersSo gives asks page request response (record page { port = port })
page_answers gives asks page mid port page_request answers request response e asked follows = record {
  same = (refl, refl, refl);
  answers = answers;
  mid = mid;
  asked = subst (λ (w : PageRequest). Asked asks page.readonly page.port (commands_of w) answers mid) e asked;
  follows = subst (λ (w : PageRequest). Follows (gives page.figures) asks page.readonly w answers mid response port) e follows;
}
