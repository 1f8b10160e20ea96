use Rattle.std.proofs.Common.{◌-◌, length}
use Rattle.click_text.proofs.OfArguments.WordCuts.{WordCutting}
use Rattle.click_text.proofs.argument_words.words_of.Given as goal

abbrev pub invariant-items : goal.invariant-items
invariant-items l = WordCutting l.argument l.at l.depth l.words.items l.word.items

abbrev pub decreases-items : goal.decreases-items
decreases-items l = length l.argument - l.at
