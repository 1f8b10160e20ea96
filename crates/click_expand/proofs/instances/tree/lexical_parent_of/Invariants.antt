use Rattle.std.proofs.Common.{◌<◌, length}
use Rattle.click_expand.specs.kept.InstanceWalk.{Follows}
use Rattle.click_expand.proofs.instances.tree.lexical_parent_of.Given as goal

abbrev pub invariant-loop-outward : goal.invariant-loop-outward
invariant-loop-outward l = (l.lexical_parent < length l.instances) × Follows l.instances l.scope l.place l.lexical_parent

abbrev pub decreases-loop-outward : goal.decreases-loop-outward
decreases-loop-outward l = l.lexical_parent
