use Rattle.std.proofs.Common.{get_or, Bool, subst, refl, ◌≡◌}
use Rattle.indexmap.specs.IndexSet.{insert_key}
use Rattle.click_scopes.specs.declared.written_connections.Owner.TheVariants as owner
use Rattle.click_scopes.specs.kept.Lookups.{body_at}
use Rattle.click_expand.specs.declared.connections.connection_index.ScopePort.{ScopePort}
use Rattle.click_expand.specs.kept.Wiring.{scope_port}
use Rattle.click_expand.proofs.OfConnections.PortEquality.{port-eq}
use Rattle.click_expand.proofs.OfConnections.PortStandIns.{stood-next}
use Rattle.click_expand.proofs.connections.passthrough.ports_for.Goals as goal

abbrev blank : ScopePort
blank = scope_port owner.Input 0

pub loop-end-preserved : goal.loop-end-preserved
loop-end-preserved c = λ all short known.
    let ends = c.args.ends.now in let i = c.loop-end.end-index in let old = c.loop-end.ports.keys in let new = c.insert.new.self.keys in
    stood-next all (body_at c.args.scopes.now.scopes.items) short c.args.scope ends old new i (get_or ends i blank) blank c.port_for.result c.loop-end-test.true refl (c.loop-end.invariant all short known)
    (c.port_for.ensures all short known) (subst (λ (e : ScopePort → ScopePort → Bool). new ≡ insert_key e old c.port_for.result) port-eq c.in_ok-insert.ensures.keys)
