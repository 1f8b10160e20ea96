use Rattle.std.proofs.Common.{◌≡◌, ◌≤◌, length, take, reverse}
use Rattle.click_base.specs.Blanks.{without_front}
use Rattle.click_base.proofs.blanks.trimmed.Given as goal

abbrev pub invariant-loop-len : goal.invariant-loop-len
invariant-loop-len l = record {
  within : l.len ≤ length l.front;
  kept : without_front (reverse (take l.len l.front)) ≡ without_front (reverse l.front);
}

abbrev pub decreases-loop-len : goal.decreases-loop-len
decreases-loop-len l = l.len
