use Rattle.std.proofs.Common.{◌≡◌, Contains, take}
use Rattle.click_scopes.specs.declared.written_connections.Owner.TheVariants as owner
use Rattle.click_expand.specs.declared.connections.connection_index.ScopePort.{ScopePort}
use Rattle.click_expand.proofs.connections.passthrough.are_outputs.Given as goal

abbrev pub invariant-loop-end : goal.invariant-loop-end
invariant-loop-end l = (p : ScopePort) → Contains (take l.end-index l.ends) p → p.owner ≡ owner.Output
