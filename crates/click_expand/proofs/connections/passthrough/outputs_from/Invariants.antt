use Rattle.std.proofs.Common.{ℕ, List, ◌-◌}
use Rattle.click_scopes.specs.kept.Lookups.{body_at}
use Rattle.click_expand.specs.declared.connections.connection_index.ScopePort.{ScopePort}
use Rattle.click_expand.specs.kept.Wiring.{ends_in}
use Rattle.click_expand.specs.kept.Passthrough.{AreShortened, AreEndsOf}
use Rattle.click_expand.proofs.OfConnections.PassthroughSearch.{Goes}
use Rattle.click_expand.proofs.connections.passthrough.outputs_from.Given as goal

abbrev pub invariant-loop-at : goal.invariant-loop-at
invariant-loop-at l =
    (ends short : ℕ → ScopePort → List ScopePort) → AreShortened ends (body_at l.scopes.scopes.items) short l.done → (are : AreEndsOf ends (body_at l.scopes.scopes.items) short l.scope (ends_in l.index.ends.entries)) →
    Goes ends (body_at l.scopes.scopes.items) short l.scope (ends_in l.index.ends.entries) are l.fn.from l.seen.keys l.outputs.keys l.at

abbrev pub decreases-loop-at : goal.decreases-loop-at
decreases-loop-at l = 18446744073709551616 - l.at
