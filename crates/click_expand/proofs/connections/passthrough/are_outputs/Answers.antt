use Rattle.std.proofs.Common.{get_or, Contains, refl, subst, sym, arith}
use Rattle.std.proofs.lemmas.List.{take_all}
use Rattle.click_scopes.specs.declared.written_connections.Owner.TheVariants as owner
use Rattle.click_expand.specs.declared.connections.connection_index.ScopePort.{ScopePort}
use Rattle.click_expand.specs.kept.Wiring.{scope_port}
use Rattle.click_expand.proofs.OfConnections.PassthroughSearch.{owned-next}
use Rattle.click_expand.proofs.connections.passthrough.are_outputs.Goals as goal

abbrev blank : ScopePort
blank = scope_port owner.Input 0

pub loop-end-preserved : goal.loop-end-preserved
loop-end-preserved c =
    let es = c.args.ends.now in let i = c.loop-end.end-index in
    owned-next owner.Output es i (get_or es i blank) blank c.loop-end-test.true refl c.loop-end.invariant c.in-Output.is

pub returns : goal.returns
returns c = λ _ p h.
    let es = c.args.ends.now in let i = c.loop-end.end-index in
    c.loop-end.invariant p (subst (λ l. Contains l p) (sym (take_all i es (let f = c.loop-end-test.false in omega (arith, f)))) h)
