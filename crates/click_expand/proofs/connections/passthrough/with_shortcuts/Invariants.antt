use Rattle.std.proofs.Common.{length}
use Rattle.click_expand.proofs.OfConnections.ShortcutIndices.{Puts}
use Rattle.click_expand.proofs.connections.passthrough.with_shortcuts.Given as goal

abbrev pub invariant-loop-one : goal.invariant-loop-one
invariant-loop-one l = Puts l.fn.index.ends.entries l.fn.found.shortcuts.items l.shortcuts.items l.ends.entries

abbrev pub decreases-loop-one : goal.decreases-loop-one
decreases-loop-one l = length l.shortcuts.items
