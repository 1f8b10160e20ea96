use Rattle.std.proofs.Common.{List, length, subst, ap, ◌∙◌}
use Rattle.click_control.specs.declared.command.Answer.{Answer}
use Rattle.click_page.specs.Answering.{AnswersSo, Follows, Paged}
use Rattle.click_page.specs.Asking.{commands_of}
use Rattle.click_page.proofs.CommandCalls.{asked-each}
use Rattle.click_page.proofs.RequestAnswers.{page_answers}
use Rattle.click_page.proofs.service.PageService.call.Goals as goal

pub finish-requires-clause-each : goal.finish-requires-clause-each
finish-requires-clause-each g c =
    let page = c.self.inside in
    let commands = commands_of c.in_ok-page_request.page_request in
    let asked = c.ask_all-answers.ensures page.readonly commands c.in_ok-calls.ensures.calls in
    ap (λ (l : List Answer). length l) c.as_slice.ensures.value
    ∙ asked-each g.P.Port.asks page.readonly page.port commands c.ask_all-answers.result.items c.ask_all-answers.new.port asked

pub returns-clause-ok : goal.returns-clause-ok
returns-clause-ok g c =
    let page = c.self.inside in
    let asks = g.P.Port.asks in
    let page_request = c.in_ok-page_request.page_request in
    let answers = c.ask_all-answers.result.items in
    let request = c.args.request.now in
    let response = c.finish.new.response in
    let mid = c.ask_all-answers.new.port in
    let port = c.finish.new.port in
    let gives = g.F.Figures.gives in
    let before : Paged g.row.P.Denot g.row.F.Denot = record { port = page.port; readonly = page.readonly; at = page.at; figures = page.figures } in
    let after : Paged g.row.P.Denot g.row.F.Denot = record before { port = port } in
    subst (λ (old : Paged g.row.P.Denot g.row.F.Denot). AnswersSo gives asks old request response after) c.self.view_is
    (page_answers gives asks before mid port page_request answers request response c.in_ok-page_request.ensures
    (c.ask_all-answers.ensures page.readonly (commands_of page_request) c.in_ok-calls.ensures.calls)
    (subst (λ (l : List Answer). Follows (gives page.figures) asks page.readonly page_request l mid response port) c.as_slice.ensures.value (c.finish.ensures page.readonly)))
