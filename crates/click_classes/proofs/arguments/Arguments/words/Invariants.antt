use Rattle.std.proofs.Common.{take}
use Rattle.std.specs.List.{AllZip}
use Rattle.click_text.specs.Words.{AreWords}
use Rattle.click_classes.proofs.arguments.Arguments.words.Given as goal

abbrev pub invariant-loop-place : goal.invariant-loop-place
invariant-loop-place l = AllZip AreWords (take l.place l.self) l.all
