use Rattle.std.proofs.Common.{length}
use Rattle.click_expand.proofs.OfInstances.OutwardNames.{IsWriting}
use Rattle.click_expand.proofs.instances.flat_names.name_of.Given as goal

abbrev pub invariant-loop-step : goal.invariant-loop-step
invariant-loop-step l = IsWriting l.scopes.scopes.items l.instances l.fn.place.within l.way.items l.name.items

abbrev pub decreases-loop-step : goal.decreases-loop-step
decreases-loop-step l = length l.way.items
