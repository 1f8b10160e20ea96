use Rattle.std.proofs.Common.{get_or, refl}
use Rattle.click_scopes.specs.declared.written_connections.Owner.TheVariants as owner
use Rattle.click_scopes.specs.kept.Lookups.{body_at}
use Rattle.click_expand.specs.declared.connections.connection_index.ScopePort.{ScopePort}
use Rattle.click_expand.specs.kept.Wiring.{scope_port}
use Rattle.click_expand.proofs.OfConnections.PassthroughSearch.{passes-next}
use Rattle.click_expand.proofs.connections.passthrough.follow_all.Goals as goal

abbrev blank : ScopePort
blank = scope_port owner.Input 0

pub loop-end-preserved : goal.loop-end-preserved
loop-end-preserved c = λ all short h.
    let es = c.args.ends.now in let i = c.loop-end.end-index in
    passes-next all (body_at c.args.scopes.now.scopes.items) short c.args.scope es i (get_or es i blank) blank c.args.seen.now.keys c.loop-end.seen.keys c.follow_port.new.seen.keys c.args.outputs.now.keys c.loop-end.outputs.keys c.follow_port.new.outputs.keys
    c.loop-end-test.true refl (c.loop-end.invariant all short h) (c.in_ok-follow_port.ensures all short h (let f = c.if-not-branch.false in cc f))
