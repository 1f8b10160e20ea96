use Rattle.std.proofs.Common.{length, sym, ap, ◌∙◌, subst}
use Rattle.click_scopes.specs.Elements.{placed}
use Rattle.click_scopes.specs.kept.ConnectionEnds.{names_among, scope_elements_in, AreEndsKept}
use Rattle.click_scopes.proofs.written_connections.written_connections_in.Goals as goal

pub written_connections_between-requires : goal.written_connections_between-requires
written_connections_between-requires c = ap length c.as_slice.ensures.value ∙ c.in_ok-ends.ensures.as_many

pub returns : goal.returns
returns c = λ declared has visible statements same ports.
    let config = c.args.config.now in let b = c.args.in_body in let ps = placed visible statements in let ls = scope_elements_in config.text b ps in let names = names_among config.text b ps in
    c.in_ok-written_connections.ensures config names ls visible statements
    (subst (λ es. AreEndsKept ls config names 0 es ps) (sym c.as_slice.ensures.value) (c.in_ok-ends.ensures.ends declared has ps same)) ports
