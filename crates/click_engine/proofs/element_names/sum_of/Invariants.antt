use Rattle.std.proofs.Common.{◌≡◌, drop}
use Rattle.click_engine.specs.kept.Sums.{sum_of, sum_on}
use Rattle.click_engine.proofs.element_names.sum_of.Given as goal

abbrev pub invariant-loop-byte : goal.invariant-loop-byte
invariant-loop-byte l = sum_on l.sum (drop l.byte-index l.name) ≡ sum_of l.name
