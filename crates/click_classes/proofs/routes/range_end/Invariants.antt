use Rattle.std.proofs.Common.{◌≡◌, ℕ, ◌<◌, ◌≤◌, ◌^◌, drop}
use Rattle.click_classes.specs.kept.Rows.{first_found}
use Rattle.click_classes.proofs.routes.range_end.Given as goal

-- no row so far covers an address of the range
abbrev pub invariant-loop-row : goal.invariant-loop-row
invariant-loop-row l = record {
  above : l.start < l.end;
  within : l.end ≤ 2 ^ 32;
  skipped : (w : ℕ) → l.start ≤ w → w < l.end → first_found (drop l.row-index l.rows) w ≡ first_found l.rows w;
}
