use Rattle.std.proofs.Common.{ℕ, List}
use Rattle.click_expand.specs.Instances.{PrimitiveElement, PrimitiveElementsOf}
use Rattle.click_expand.proofs.OfInstances.WalkSteps.{IsAfter, left}
use Rattle.click_expand.proofs.instances.tree.instances_of.Given as goal

abbrev pub invariant-loop-more : goal.invariant-loop-more
invariant-loop-more l = (primitive_elements : List PrimitiveElement) (n : ℕ) → PrimitiveElementsOf l.config primitive_elements n → IsAfter l.config l.more l.walk primitive_elements n

abbrev pub decreases-loop-more : goal.decreases-loop-more
decreases-loop-more l = left l.more l.paths l.walk
