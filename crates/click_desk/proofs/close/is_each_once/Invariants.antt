use Rattle.click_desk.specs.Closing.{IsEachOnce}
use Rattle.click_desk.proofs.close.is_each_once.Given as goal

abbrev pub invariant-loop-number : goal.invariant-loop-number
invariant-loop-number g l = IsEachOnce l.number l.seats
