use Rattle.click_scopes.proofs.OfConnections.ConnectionPairs.{Paired}
use Rattle.click_scopes.proofs.written_connections.written_connections_between.Given as goal

abbrev pub invariant-loop-place : goal.invariant-loop-place
invariant-loop-place l = Paired l.ends l.written l.written_connections l.before l.place
