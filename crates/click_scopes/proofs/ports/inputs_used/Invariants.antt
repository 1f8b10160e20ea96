use Rattle.std.proofs.Common.{take}
use Rattle.click_scopes.specs.kept.CompoundFaults.{inputs_kept, IsUsed}
use Rattle.click_scopes.proofs.ports.inputs_used.Given as goal

abbrev pub invariant-loop-written_connection : goal.invariant-loop-written_connection
invariant-loop-written_connection l = IsUsed (inputs_kept (take l.written_connection-index l.written_connections)) l.used.count l.used.ports
