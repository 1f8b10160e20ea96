use Rattle.std.proofs.Common.{◌≡◌, length, take}
use Rattle.click_scopes.specs.kept.Lookups.{body_at}
use Rattle.click_expand.proofs.OfConnections.ShortcutIndices.{AreAllShortened}
use Rattle.click_expand.proofs.connections.passthrough.all_indices.Given as goal

abbrev pub invariant-loop-scope : goal.invariant-loop-scope
invariant-loop-scope l = record { are : AreAllShortened (body_at l.scopes.scopes.items) (take l.scope l.scopes.scopes.items) l.indices.items; as_many : l.scope ≡ length l.indices.items }
