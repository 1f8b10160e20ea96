use Rattle.std.proofs.Common.{ℕ, List}
use Rattle.click_scopes.specs.kept.Lookups.{body_at}
use Rattle.click_expand.specs.declared.connections.connection_index.ScopePort.{ScopePort}
use Rattle.click_expand.specs.kept.Wiring.{ends_in}
use Rattle.click_expand.specs.kept.Passthrough.{AreShortened, AreEndsOf, AreFound}
use Rattle.click_expand.proofs.connections.passthrough.shortcuts_of.Given as goal

abbrev pub invariant-loop-at : goal.invariant-loop-at
invariant-loop-at l = (ends short : ℕ → ScopePort → List ScopePort) → AreShortened ends (body_at l.scopes.scopes.items) short l.done →
    AreEndsOf ends (body_at l.scopes.scopes.items) short l.scope (ends_in l.index.ends.entries) →
    AreFound ends (body_at l.scopes.scopes.items) l.scope (ends_in l.index.ends.entries) l.found
