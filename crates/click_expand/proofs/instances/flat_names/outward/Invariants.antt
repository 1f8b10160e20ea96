use Rattle.click_expand.proofs.OfInstances.OutwardNames.{IsWalked}
use Rattle.click_expand.proofs.instances.flat_names.outward.Given as goal

abbrev pub invariant-loop-place : goal.invariant-loop-place
invariant-loop-place l = IsWalked l.instances l.within l.at l.way.items

abbrev pub decreases-loop-place : goal.decreases-loop-place
decreases-loop-place l = l.at
