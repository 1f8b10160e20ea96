use Rattle.std.proofs.Common.{length, ap, ◌∙◌}
use Rattle.std.proofs.lemmas.List.{length-map}
use Rattle.click_scopes.specs.declared.written_scopes.WrittenElement.{WrittenElement}
use Rattle.click_scopes.specs.kept.Tables.{elements_of, numbers_from}
use Rattle.click_scopes.proofs.OfConnections.EndOwners.{numbers-length, known-by}
use Rattle.click_scopes.proofs.written_connections.ends_of.Goals as goal

pub ends_at-requires-clause-as_many : goal.ends_at-requires-clause-as_many
ends_at-requires-clause-as_many c =
    let ws = c.args.written.now in
    ap length (c.as_slice.ensures.value ∙ c.in_ok-numbers.ensures)
    ∙ numbers-length c.as_slice-text.result.now c.args.in_body c.args.declared.now.names 0 (elements_of ws) ∙ length-map ws (λ (w : WrittenElement). w.element)

pub returns-clause-ends : goal.returns-clause-ends
returns-clause-ends c = λ declared has ps same.
    let text = c.args.config.now.text in let t = c.as_slice-text.ensures in let d = c.args.declared.now in let ws = c.args.written.now in
    c.in_ok-ends.ensures.ends ps
    (known-by text c.args.in_body ws d.names d.firsts.items c.as_slice.result.now ps declared has
    (c.as_slice.ensures.value ∙ c.in_ok-numbers.ensures ∙ ap (λ x. numbers_from x c.args.in_body d.names 0 (elements_of ws)) t) same) same
