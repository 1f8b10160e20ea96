use Rattle.std.proofs.Common.{◌≡◌, ℕ, ap, subst, sym, ◌∙◌}
use Rattle.http_server.specs.Exchange.{Chain}
use Rattle.click_page.specs.Answering.{Paged, AnswersSo}
use Rattle.click_prog.specs.Paging.{IsPagedOver}
use Rattle.click_prog.proofs.Paged.{page_with, paged-over}
use Rattle.click_prog.proofs.paging.serve_page.Goals as goal

pub returns : goal.returns
returns g c =
    let asks = g.P.Port.asks in
    let gives = g.F.Figures.gives in
    let at = c.args.http_listener.port in
    let old : c.new-page.result ≡ page_with c.args.port c.args.readonly at c.args.figures =
    c.new-page.ensures ∙ ap (λ (a : ℕ). page_with c.of_page-observed.result c.args.readonly a c.args.figures) c.port-at.ensures
    ∙ ap (λ (p : g.row.P.Denot). page_with p c.args.readonly at c.args.figures) c.of_page-observed.ensures in
    let led = c.serve_until-ended.ensures.led in
    let chain = subst (λ (p : Paged g.row.P.Denot g.row.F.Denot). Chain (AnswersSo gives asks) p led.0 c.serve_until-ended.new.service) old led.1 in
    subst (λ (q : g.row.P.Denot). IsPagedOver asks c.args.readonly at c.args.port q) (sym (c.into_port.ensures ∙ c.into_port-observed.ensures))
    (paged-over gives asks c.args.readonly at c.args.figures c.args.port led.0 c.serve_until-ended.new.service chain)
