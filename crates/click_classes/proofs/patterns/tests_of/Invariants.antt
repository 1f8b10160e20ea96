use Rattle.std.proofs.Common.{◌≤◌, length}
use Rattle.click_classes.proofs.OfPatterns.StepLists.{TestsSoFar}
use Rattle.click_classes.proofs.patterns.tests_of.Given as goal

abbrev pub invariant-loop-at : goal.invariant-loop-at
invariant-loop-at l = record {
  within : l.at ≤ length l.clauses;
  so_far : TestsSoFar l.clauses l.at l.tests;
}

abbrev pub decreases-loop-at : goal.decreases-loop-at
decreases-loop-at l = l.at
