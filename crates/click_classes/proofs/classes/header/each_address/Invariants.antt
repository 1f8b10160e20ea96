use Rattle.std.proofs.Common.{◌≡◌, drop}
use Rattle.click_classes.specs.Values.{address}
use Rattle.click_classes.specs.Steps.{each}
use Rattle.click_classes.proofs.OfArguments.ListParts.{preceded}
use Rattle.click_classes.proofs.classes.header.each_address.Given as goal

abbrev pub invariant-loop-word : goal.invariant-loop-word
invariant-loop-word l = preceded l.list (each address (drop l.word-index l.words)) ≡ each address l.words
