use Rattle.std.proofs.Common.{take}
use Rattle.click_expand.specs.kept.Wiring.{IsIndex}
use Rattle.click_expand.proofs.connections.connection_index.index_of.Given as goal

abbrev pub invariant-loop-written_connection : goal.invariant-loop-written_connection
invariant-loop-written_connection l = IsIndex (take l.written_connection-index l.written_connections) l.index.ends.entries
