use Rattle.std.proofs.Common.{take}
use Rattle.click_ports.proofs.FarEnds.{AreEndsOf}
use Rattle.click_ports.proofs.ends.ends_of.Given as goal

abbrev pub invariant-loop-connection : goal.invariant-loop-connection
invariant-loop-connection l = AreEndsOf l.layout (take l.connection-index l.connection-items) l.rows.items
