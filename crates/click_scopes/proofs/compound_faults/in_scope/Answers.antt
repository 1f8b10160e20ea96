use Rattle.click_scopes.proofs.OfFaults.PlaceCompoundFaults.{scope-here}
use Rattle.click_scopes.proofs.compound_faults.in_scope.Goals as goal

pub returns : goal.returns
returns c =
    scope-here c.args.bodies.now c.args.scopes.now.scopes.items c.args.ports.now c.args.place c.elements_at-elements.result.now c.connections_at.result.now c.in_calls-call.result
    c.in_written_connections-written_connection.result c.first_of.result c.elements_at-elements.ensures c.connections_at.ensures c.in_calls-call.ensures c.in_written_connections-written_connection.ensures c.first_of.ensures
