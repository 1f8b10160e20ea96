use Rattle.std.proofs.Common.{ℕ, List}
use Rattle.click_scopes.specs.kept.Lookups.{body_at}
use Rattle.click_expand.specs.declared.connections.connection_index.ScopePort.{ScopePort}
use Rattle.click_expand.specs.kept.Passthrough.{AreShortened}
use Rattle.click_expand.proofs.OfConnections.PortStandIns.{Reduces}
use Rattle.click_expand.proofs.connections.passthrough.with_representatives.Given as goal

abbrev pub invariant-loop-at : goal.invariant-loop-at
invariant-loop-at l = (ends short : ℕ → ScopePort → List ScopePort) → AreShortened ends (body_at l.scopes.scopes.items) short l.done → Reduces ends (body_at l.scopes.scopes.items) short l.scope l.index.ends.entries l.at l.ends.entries
