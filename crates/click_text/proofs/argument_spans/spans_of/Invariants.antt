use Rattle.std.proofs.Common.{◌-◌, length}
use Rattle.click_text.proofs.OfArguments.ArgumentCuts.{Cutting}
use Rattle.click_text.proofs.argument_spans.spans_of.Given as goal

abbrev pub invariant-items : goal.invariant-items
invariant-items l = Cutting l.text l.at l.depth l.spans.items l.found

abbrev pub decreases-items : goal.decreases-items
decreases-items l = length l.text - l.at
