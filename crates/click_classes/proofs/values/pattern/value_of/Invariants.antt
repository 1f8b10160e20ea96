use Rattle.std.proofs.Common.{◌≡◌, ◌*◌, ◌++◌, drop}
use Rattle.click_classes.specs.Patterns.{value_of}
use Rattle.click_classes.proofs.values.pattern.value_of.Given as goal

abbrev pub invariant-loop-i : goal.invariant-loop-i
invariant-loop-i l = l.value ++ value_of (drop (2 * l.i) l.digits) ≡ value_of l.digits
