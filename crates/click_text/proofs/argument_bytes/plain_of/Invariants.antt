use Rattle.std.proofs.Common.{◌-◌, length}
use Rattle.click_text.proofs.OfArguments.ArgumentQuotes.{Quoting}
use Rattle.click_text.proofs.argument_bytes.plain_of.Given as goal

abbrev pub invariant-items : goal.invariant-items
invariant-items l = Quoting l.argument l.at l.bytes.items

abbrev pub decreases-items : goal.decreases-items
decreases-items l = length l.argument - l.at
