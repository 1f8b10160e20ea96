use Rattle.std.proofs.Common.{◌-◌, ◌≤◌, ◌^◌}
use Rattle.click_classes.proofs.OfRoutes.RouteRanges.{Reach}
use Rattle.click_classes.proofs.routes.ranges_of.Given as goal

-- the ranges so far end before `begin`
abbrev pub invariant-loop-begin : goal.invariant-loop-begin
invariant-loop-begin l = record {
  within : l.begin ≤ 2 ^ 32;
  reach : Reach l.rows l.begin l.ranges.items;
}

abbrev pub decreases-loop-begin : goal.decreases-loop-begin
decreases-loop-begin l = 2 ^ 32 - l.begin
