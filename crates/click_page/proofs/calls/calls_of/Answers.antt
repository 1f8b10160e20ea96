use Rattle.std.proofs.Common.{ℕ, List, map, Option, sym, subst, ap, ◌∙◌}
use Rattle.std.proofs.lemmas.Result.{IfOk-weaker}
use Rattle.click_router.specs.declared.call.Call.{Call}
use Rattle.click_control.specs.Serving.{call_of}
use Rattle.click_page.specs.Asking.{commands_of, reading}
use Rattle.click_page.specs.declared.page_request.PageRequest.{PageRequest}
use Rattle.click_page.specs.kept.Calls.{AreNoPolls, read_call}
use Rattle.click_page.proofs.CommandCalls.{made_no_polls, reading_calls}
use Rattle.click_page.proofs.calls.calls_of.Goals as goal

pub returns-in-Read-clause-calls : goal.returns-in-Read-clause-calls
returns-in-Read-clause-calls c =
    let of_wish = ap (λ (w : PageRequest). map (call_of c.args.readonly) (commands_of w)) (sym c.in-Read.is) in
    IfOk-weaker c.read_calls.result _ _
    (λ calls e. e ∙ ap (λ (hs : List (List ℕ)). map read_call hs) c.as_slice.ensures ∙ reading_calls c.args.readonly c.in-Read.handlers ∙ of_wish)
    c.read_calls.ensures

pub returns-in-Read-clause-no_polls : goal.returns-in-Read-clause-no_polls
returns-in-Read-clause-no_polls c =
    IfOk-weaker c.read_calls.result _ _
    (λ calls e. subst (λ (l : List (Option Call)). AreNoPolls l)
    (sym (e ∙ ap (λ (hs : List (List ℕ)). map read_call hs) c.as_slice.ensures ∙ reading_calls c.args.readonly c.in-Read.handlers))
    (made_no_polls c.args.readonly (map reading c.in-Read.handlers)))
    c.read_calls.ensures
