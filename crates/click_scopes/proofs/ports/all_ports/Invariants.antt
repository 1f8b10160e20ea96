use Rattle.click_scopes.proofs.OfConnections.BodyPortCounts.{Counted}
use Rattle.click_scopes.proofs.ports.all_ports.Given as goal

abbrev pub invariant-loop-place : goal.invariant-loop-place
invariant-loop-place l = Counted l.config l.ports.items l.place
