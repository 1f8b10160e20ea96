use Rattle.click_scopes.specs.kept.FirstFault.{IsLeast}
use Rattle.click_scopes.specs.kept.CompoundFaults.{Among, IsWrongWrittenConnection}
use Rattle.click_scopes.proofs.compound_faults.in_written_connections.Given as goal

abbrev pub invariant-loop-written_connection : goal.invariant-loop-written_connection
invariant-loop-written_connection l = IsLeast (Among (IsWrongWrittenConnection l.scope_elements l.ports l.written_connections) l.written_connection-index) l.first
