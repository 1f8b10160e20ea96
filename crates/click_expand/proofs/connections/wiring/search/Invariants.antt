use Rattle.std.proofs.Common.{◌-◌}
use Rattle.click_expand.proofs.OfConnections.PortSearch.{Goes}
use Rattle.click_expand.proofs.connections.wiring.search.Given as goal

abbrev pub invariant-loop-at : goal.invariant-loop-at
invariant-loop-at l = Goes l.instances l.indices l.from.primitive_element l.from.start l.seen.keys l.fn.found.keys l.found.keys l.at

abbrev pub decreases-loop-at : goal.decreases-loop-at
decreases-loop-at l = 18446744073709551616 - l.at
