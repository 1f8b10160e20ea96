-- The answering of a request by the page, with the page before and after it.
use Rattle.std.specs.Prelude.{◌≡◌, ◌⊎◌, ℕ, List, Bool, Option, None, Result}
use Rattle.http.specs.declared.request.Request.{Request}
use Rattle.http.specs.Request.{head_of, body_of}
use Rattle.http_server.specs.declared.response.Response.{Response}
use Rattle.click_router.specs.declared.call.Call.{Call}
use Rattle.click_router.specs.declared.call.Reply.{Reply}
use Rattle.click_control.specs.Serving.{Asked}
use Rattle.click_control.specs.declared.command.Answer.{Answer}
use Rattle.click_control.specs.declared.port.AskFault.{AskFault}
use Rattle.click_page.specs.Asking.{parse_request, commands_of}
use Rattle.click_page.specs.Metrics.{IsSurvey, later}
use Rattle.click_page.specs.Saying.{SaysFor, SaysNoMemory}
use Rattle.click_page.specs.declared.page_request.PageRequest.{PageRequest}
use Rattle.click_page.specs.declared.survey.Survey.{Survey}

-- a page: the port through which it makes calls, whether it may only read, its port of 127.0.0.1,
-- and the figures of its metrics
pub record Paged (P F : Type 0) : Type 0 where
  pub port : P
  pub readonly : Bool
  pub at : ℕ
  pub figures : F

-- The calls after the first ones, and the response. A request for metrics made those of its survey,
-- in order; any other made none. The response reports the answers, or out of memory. If there is no
-- memory for the survey or its calls, none of them was made.
pub record Follows {P : Type 0} (Gives : List ℕ → Type 0) (asks : P → Call → Result Reply AskFault → P → Type 0) (readonly : Bool) (w : PageRequest) (answers : List Answer) (mid : P) (response : Response) (new : P) : Type 0 where
  pub survey : Option Survey
  pub values : List Answer
  pub asked : Asked asks readonly mid (later survey) values new
  pub says : (IsSurvey w answers survey × (SaysFor Gives w answers survey values response ⊎ SaysNoMemory response)) ⊎ ((survey ≡ None) × SaysNoMemory response)

-- The page answers a request. It made exactly the calls of the request's commands, in order, as a
-- session does, and then those that follow from their answers. The response reports the answers, or
-- out of memory.
pub record AnswersSo {P F : Type 0} (gives : F → List ℕ → Type 0) (asks : P → Call → Result Reply AskFault → P → Type 0) (old : Paged P F) (request : Request (List ℕ)) (response : Response) (new : Paged P F) : Type 0 where
  pub same : (new.readonly ≡ old.readonly) × (new.at ≡ old.at) × (new.figures ≡ old.figures)
  pub answers : List Answer
  pub mid : P
  pub asked : Asked asks old.readonly old.port (commands_of (parse_request old.at (head_of request) (body_of request))) answers mid
  pub follows : Follows (gives old.figures) asks old.readonly (parse_request old.at (head_of request) (body_of request)) answers mid response new.port
