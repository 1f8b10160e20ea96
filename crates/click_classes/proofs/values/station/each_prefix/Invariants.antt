use Rattle.std.proofs.Common.{◌≡◌, drop}
use Rattle.click_classes.specs.Values.{prefix}
use Rattle.click_classes.specs.Steps.{each}
use Rattle.click_classes.proofs.OfArguments.ListParts.{preceded}
use Rattle.click_classes.proofs.values.station.each_prefix.Given as goal

abbrev pub invariant-loop-word : goal.invariant-loop-word
invariant-loop-word l = preceded l.list (each prefix (drop l.word-index l.words)) ≡ each prefix l.words
