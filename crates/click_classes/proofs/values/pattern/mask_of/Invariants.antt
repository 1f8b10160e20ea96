use Rattle.std.proofs.Common.{◌≡◌, ◌*◌, ◌++◌, drop}
use Rattle.click_classes.specs.Patterns.{mask_of}
use Rattle.click_classes.proofs.values.pattern.mask_of.Given as goal

abbrev pub invariant-loop-i : goal.invariant-loop-i
invariant-loop-i l = l.bytes ++ mask_of (drop (2 * l.i) l.digits) (drop (2 * l.i) l.mask) ≡ mask_of l.digits l.mask
