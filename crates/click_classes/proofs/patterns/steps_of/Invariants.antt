use Rattle.std.proofs.Common.{◌≤◌, ◌-◌, max}
use Rattle.click_classes.proofs.OfPatterns.StepLists.{SoFar}
use Rattle.click_classes.proofs.patterns.steps_of.Given as goal

-- the steps so far and the bytes that are left
abbrev pub invariant-loop-at : goal.invariant-loop-at
invariant-loop-at l = record {
  least : l.from ≤ l.at;
  most : l.at ≤ max l.len l.from;
  so_far : SoFar l.offset l.value l.mask l.from l.at l.steps;
}

abbrev pub decreases-loop-at : goal.decreases-loop-at
decreases-loop-at l = l.len - l.at
