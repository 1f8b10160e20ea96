-- Lemmas on a page and its seat: the seat stays the same one, and none of its calls is a Transmit. A
-- page with figures is one whose figures may be any text.
use Rattle.std.proofs.Common.{◌≡◌, ◌⊎◌, inl, inr, ℕ, Bool, false, List, Option, Some, None, Result, [], ◌∷◌, ◌++◌, refl, sym, ap, ◌∙◌, subst}
use Rattle.std.specs.List.{All, AllZip}
use Rattle.std.proofs.lemmas.List.Elements.{All-nil, All-cons, All-head, All-tail}
use Rattle.http.specs.declared.request.Request.{Request}
use Rattle.http_server.specs.Exchange.{Call, Chain}
use Rattle.http_server.specs.declared.response.Response.{Response}
use Rattle.click_router.specs.One.{is_transmit}
use Rattle.click_router.specs.declared.call.Call.{Call as Asked}
use Rattle.click_router.specs.declared.call.Reply.{Reply}
use Rattle.click_control.specs.Serving.{Asked as AsksFor}
use Rattle.click_control.specs.declared.command.Answer.{Answer}
use Rattle.click_control.specs.declared.command.Command.{Command}
use Rattle.click_control.specs.declared.port.AskFault.{AskFault}
use Rattle.click_desk.specs.SeatStates.{SeatState}
use Rattle.click_page.specs.Answering.{Paged, AnswersSo, Follows}
use Rattle.click_page.specs.Metrics.{IsSurvey}
use Rattle.click_page.specs.Saying.{SaysFor, SaysNoMemory}
use Rattle.click_page.specs.declared.page_request.PageRequest.{PageRequest}
use Rattle.click_page.specs.declared.page_request.PageRequest.TheVariants as page_request
use Rattle.click_page.specs.declared.survey.Survey.{Survey}
use Rattle.click_workers.specs.Linked.{AreQuiet}
use Rattle.click_workers.specs.Seats.{SameSeat, SeatAsks}
use Rattle.click_workers.proofs.SeatLists.{asked-grows}
use Rattle.click_workers.proofs.TransmitSeats.{quiet-both, made-quiet}
use Rattle.click_prog.specs.Paging.{AnyText, IsPaged, IsPagedOver, page_at}

same-twice : (a b c : SeatState) → SameSeat a b → SameSeat b c → SameSeat a c
same-twice a b c h k = (k.0 ∙ h.0, k.1 ∙ h.1, k.2 ∙ h.2)

chain-same : (old : Paged SeatState (Unit {0})) (requests : List Call) (new : Paged SeatState (Unit {0})) → Chain (AnswersSo AnyText SeatAsks) old requests new → SameSeat old.port new.port
chain-same old [] new e = (ap (λ p. p.port.desk) e, ap (λ p. p.port.number) e, ap (λ p. p.port.feeds) e)
chain-same old (r ∷ requests) new (next, answers, rest) =
    same-twice old.port next.port new.port
    (same-twice old.port answers.mid next.port (asked-grows old.readonly old.port _ answers.answers answers.mid answers.asked).0
    (asked-grows old.readonly answers.mid _ answers.follows.values next.port answers.follows.asked).0)
    (chain-same next requests new rest)

-- the calls of commands have no Transmit
asked-quiet : (readonly : Bool) (p : SeatState) (commands : List Command) (answers : List Answer) (q : SeatState) → AsksFor SeatAsks readonly p commands answers q → AreQuiet p.calls
    → AreQuiet q.calls
asked-quiet readonly p commands answers q asked quiet =
    let grown = (asked-grows readonly p commands answers q asked).1 in
    subst AreQuiet (sym grown) (quiet-both p.calls _ quiet (made-quiet readonly commands answers))

chain-quiet : (old : Paged SeatState (Unit {0})) (requests : List Call) (new : Paged SeatState (Unit {0})) → Chain (AnswersSo AnyText SeatAsks) old requests new → AreQuiet old.port.calls
    → AreQuiet new.port.calls
chain-quiet old [] new e quiet = subst (λ (p : Paged SeatState (Unit {0})). AreQuiet p.port.calls) (sym e) quiet
chain-quiet old (r ∷ requests) new (next, answers, rest) quiet =
    let follows = answers.follows in
    let first = asked-quiet old.readonly old.port _ answers.answers answers.mid answers.asked quiet in
    chain-quiet next requests new rest (asked-quiet old.readonly answers.mid _ follows.values next.port follows.asked first)

-- ---- pages with figures

-- a page with these figures
abbrev pub page_with : {P F : Type 0} → P → Bool → ℕ → F → Paged P F
page_with port readonly at figures = record { port = port; readonly = readonly; at = at; figures = figures }

-- the page, without what is known of its figures
abbrev forget : {P F : Type 0} → Paged P F → Paged P (Unit {0})
forget page = page_at page.port page.readonly page.at

-- a response with these figures is one whose figures may be any text
says-any : (Gives : List ℕ → Type 0) (w : PageRequest) (answers : List Answer) (survey : Option Survey) (values : List Answer) (response : Response) → SaysFor Gives w answers survey values response
    → SaysFor (AnyText tt) w answers survey values response
says-any Gives page_request.Metrics answers None values response says = says
says-any Gives page_request.Metrics answers (Some s) values response (more, given, says) = (more, tt, says)
says-any Gives (page_request.Write handler text) [] survey values response says = absurd says
says-any Gives (page_request.Write handler text) (a ∷ answers) survey values response says = says
says-any Gives _ answers survey values response says = says

told-any : (Gives : List ℕ → Type 0) (w : PageRequest) (answers : List Answer) (survey : Option Survey) (values : List Answer) (response : Response)
    → (IsSurvey w answers survey × (SaysFor Gives w answers survey values response ⊎ SaysNoMemory response)) ⊎ ((survey ≡ None) × SaysNoMemory response)
    → (IsSurvey w answers survey × (SaysFor (AnyText tt) w answers survey values response ⊎ SaysNoMemory response)) ⊎ ((survey ≡ None) × SaysNoMemory response)
told-any Gives w answers survey values response (inl (is, inl says)) = inl (is, inl (says-any Gives w answers survey values response says))
told-any Gives w answers survey values response (inl (is, inr none)) = inl (is, inr none)
told-any Gives w answers survey values response (inr none) = inr none

module _ {P F : Type 0} (gives : F → List ℕ → Type 0) (asks : P → Asked → Result Reply AskFault → P → Type 0) where
  answers-any : (old : Paged P F) (request : Request (List ℕ)) (response : Response) (new : Paged P F) → AnswersSo gives asks old request response new
      → AnswersSo AnyText asks (forget old) request response (forget new)
  answers-any old request response new a = record {
    same = (a.same.0, a.same.1, refl);
    answers = a.answers;
    mid = a.mid;
    asked = a.asked;
    follows = record {
      survey = a.follows.survey;
      values = a.follows.values;
      asked = a.follows.asked;
      says = told-any (gives old.figures) _ a.answers a.follows.survey a.follows.values response a.follows.says;
    };
  }

  chain-any : (old : Paged P F) (requests : List Call) (new : Paged P F) → Chain (AnswersSo gives asks) old requests new → Chain (AnswersSo AnyText asks) (forget old) requests (forget new)
  chain-any old [] new e = ap (λ (p : Paged P F). forget p) e
  chain-any old (r ∷ requests) new (next, answers, rest) = (forget next, answers-any old r.0 r.1 next answers, chain-any next requests new rest)

  chain-kept : (old : Paged P F) (requests : List Call) (new : Paged P F) → Chain (AnswersSo gives asks) old requests new → (new.readonly ≡ old.readonly) × (new.at ≡ old.at)
  chain-kept old [] new e = (ap (λ (p : Paged P F). p.readonly) e, ap (λ (p : Paged P F). p.at) e)
  chain-kept old (r ∷ requests) new (next, answers, rest) =
      let k = chain-kept next requests new rest in
      (k.0 ∙ answers.same.0, k.1 ∙ answers.same.1)

  -- a page that answered requests is still a page at this port, over what answers its calls
  pub paged-over : (readonly : Bool) (at : ℕ) (figures : F) (old : P) (requests : List Call) (new : Paged P F) → Chain (AnswersSo gives asks) (page_with old readonly at figures) requests new
      → IsPagedOver asks readonly at old new.port
  paged-over readonly at figures old requests new chain =
      let kept = chain-kept (page_with old readonly at figures) requests new chain in
      let same : forget new ≡ page_at new.port readonly at =
      ap (λ (r : Bool). page_at new.port r new.at) kept.0 ∙ ap (λ (a : ℕ). page_at new.port readonly a) kept.1 in (
        requests,
        subst (λ (p : Paged P (Unit {0})). Chain (AnswersSo AnyText asks) (page_at old readonly at) requests p) same
            (chain-any (page_with old readonly at figures) requests new chain),
      )

-- ---- pages over a seat

pub page-same : (readonly : Bool) (at : ℕ) (old new : SeatState) → IsPaged readonly at old new → SameSeat old new
page-same readonly at old new paged = chain-same (page_at old readonly at) paged.0 (page_at new readonly at) paged.1

pub page-quiet : (readonly : Bool) (at : ℕ) (old new : SeatState) → old.calls ≡ [] → IsPaged readonly at old new → AreQuiet new.calls
page-quiet readonly at old new none paged =
    chain-quiet (page_at old readonly at) paged.0 (page_at new readonly at) paged.1
    (subst AreQuiet (sym none) (All-nil (λ (p : Asked × Reply). is_transmit p.0 ≡ false)))
