use Rattle.std.proofs.Common.{◌-◌, length}
use Rattle.click_text.proofs.OfArguments.WordCuts.{Spacing}
use Rattle.click_text.proofs.argument_words.spaced_bytes.Given as goal

abbrev pub invariant-items : goal.invariant-items
invariant-items l = Spacing l.argument l.at l.bytes.items

abbrev pub decreases-items : goal.decreases-items
decreases-items l = length l.argument - l.at
