use Rattle.std.proofs.Common.{◌≡◌, ◌≤◌, drop}
use Rattle.click_base.specs.Numbers.{spelled}
use Rattle.click_base.proofs.numbers.spelled.Given as goal

abbrev pub invariant-loop-digit : goal.invariant-loop-digit
invariant-loop-digit l = record {
  small : l.number ≤ l.high;
  goes_on : spelled l.base l.number (drop l.digit-index l.digits) ≡ spelled l.base 0 l.digits;
}
