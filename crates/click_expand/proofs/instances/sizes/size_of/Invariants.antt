use Rattle.std.proofs.Common.{◌≡◌, length}
use Rattle.click_expand.proofs.OfInstances.ScopeSizes.{AreWeighed}
use Rattle.click_expand.proofs.instances.sizes.size_of.Given as goal

abbrev pub invariant-loop-scope : goal.invariant-loop-scope
invariant-loop-scope l = (length l.sizes.items ≡ l.scope-index) × AreWeighed l.config l.sizes.items
