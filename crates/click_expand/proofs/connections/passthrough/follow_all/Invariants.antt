use Rattle.std.proofs.Common.{ℕ, List, take}
use Rattle.click_scopes.specs.kept.Lookups.{body_at}
use Rattle.click_expand.specs.declared.connections.connection_index.ScopePort.{ScopePort}
use Rattle.click_expand.specs.kept.Passthrough.{AreShortened, GoesOnBehind}
use Rattle.click_expand.proofs.connections.passthrough.follow_all.Given as goal

abbrev pub invariant-loop-end : goal.invariant-loop-end
invariant-loop-end l =
    (all short : ℕ → ScopePort → List ScopePort) → AreShortened all (body_at l.scopes.scopes.items) short l.done →
    GoesOnBehind all (body_at l.scopes.scopes.items) short l.scope (take l.end-index l.ends) l.fn.seen.keys l.seen.keys l.fn.outputs.keys l.outputs.keys
