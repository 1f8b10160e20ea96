use Rattle.std.proofs.Common.{◌≡◌, drop}
use Rattle.click_base.specs.Blanks.{without_front}
use Rattle.click_base.proofs.blanks.without_front.Given as goal

abbrev pub invariant-loop-i : goal.invariant-loop-i
invariant-loop-i l = without_front (drop l.i l.bytes) ≡ without_front l.bytes
