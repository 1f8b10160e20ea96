use Rattle.std.proofs.Common.{◌≡◌, ◌-◌, length, take}
use Rattle.click_classes.specs.Values.{separated}
use Rattle.click_classes.proofs.OfArguments.Groups.{preceded}
use Rattle.click_classes.proofs.values.groups.read_separated.Given as goal

abbrev pub invariant-loop-i : goal.invariant-loop-i
invariant-loop-i l = record {
  same_len : length l.values ≡ length l.initial.values;
  goes_on : preceded (take l.i l.values) (separated l.kind l.separator (length l.values - l.i) l.rest) ≡ separated l.kind l.separator (length l.initial.values) l.bytes;
}
