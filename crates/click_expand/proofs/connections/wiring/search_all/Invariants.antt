use Rattle.std.proofs.Common.{[]}
use Rattle.click_expand.specs.Flat.{most_connections}
use Rattle.click_expand.specs.kept.Wiring.{IsFromInstance}
use Rattle.click_expand.proofs.OfConnections.OutputSearches.{Gathers}
use Rattle.click_expand.proofs.connections.wiring.search_all.Given as goal

abbrev pub invariant-loop-within : goal.invariant-loop-within
invariant-loop-within l = Gathers (IsFromInstance l.instances l.indices) most_connections l.within [] l.found.keys
