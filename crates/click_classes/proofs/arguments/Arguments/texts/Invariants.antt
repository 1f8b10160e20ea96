use Rattle.std.proofs.Common.{take}
use Rattle.std.specs.List.{AllZip}
use Rattle.click_text.specs.Words.{IsWithoutComments}
use Rattle.click_classes.proofs.arguments.Arguments.texts.Given as goal

abbrev pub invariant-loop-place : goal.invariant-loop-place
invariant-loop-place l = AllZip IsWithoutComments (take l.place l.self) l.all
