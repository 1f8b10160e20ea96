use Rattle.std.proofs.Common.{take}
use Rattle.click_ports.specs.kept.Used.{AreUsed}
use Rattle.click_ports.proofs.sizes.used.Given as goal

abbrev pub invariant-loop-connection : goal.invariant-loop-connection
invariant-loop-connection l = AreUsed (take l.connection-index l.connections) l.elements l.side l.counts.items
