use Rattle.click_expand.specs.Flat.{most_connections}
use Rattle.click_expand.proofs.OfConnections.OutputSearches.{Gathers, IsFromKey}
use Rattle.click_expand.proofs.connections.wiring.search_instance.Given as goal

abbrev pub invariant-loop-at : goal.invariant-loop-at
invariant-loop-at l = Gathers (IsFromKey l.instances l.indices l.within l.index.ends.entries) most_connections l.at l.fn.found.keys l.found.keys
