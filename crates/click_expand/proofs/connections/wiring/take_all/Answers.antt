use Rattle.std.proofs.Common.{◌∷◌, [], get_or, subst, refl}
use Rattle.click_scopes.specs.declared.written_connections.Owner.TheVariants as owner
use Rattle.click_expand.specs.declared.connections.connection_index.ScopePort.{ScopePort}
use Rattle.click_expand.specs.declared.connections.connection_index.Reached.{Reached}
use Rattle.click_expand.specs.kept.Wiring.{scope_port, Takes}
use Rattle.click_expand.proofs.OfConnections.PortSearch.{takes-next}
use Rattle.click_expand.proofs.connections.wiring.take_all.Goals as goal

abbrev blank : ScopePort
blank = scope_port owner.Input 0

pub loop-end-preserved : goal.loop-end-preserved
loop-end-preserved c =
    let primitive_element = c.args.from.primitive_element in let number = c.args.from.start.port.number in let ends = c.args.ends.now in let i = c.loop-end.end-index in
    takes-next primitive_element number c.args.one.now ends i (get_or ends i blank) blank c.args.seen.now.keys c.loop-end.seen.keys c.take.new.seen.keys c.args.found.now.keys c.loop-end.found.keys c.take.new.found.keys
    c.loop-end-test.true refl c.loop-end.invariant
    (subst (λ (n : Reached). Takes primitive_element number (n ∷ []) c.loop-end.seen.keys c.take.new.seen.keys c.loop-end.found.keys c.take.new.found.keys) c.next_of.ensures c.in_ok-take.ensures)
