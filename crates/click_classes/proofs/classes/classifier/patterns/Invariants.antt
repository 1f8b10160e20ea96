use Rattle.std.proofs.Common.{◌≡◌, drop}
use Rattle.click_classes.specs.Patterns.{pattern}
use Rattle.click_classes.specs.Steps.{each}
use Rattle.click_classes.proofs.OfArguments.ListParts.{preceded}
use Rattle.click_classes.proofs.classes.classifier.patterns.Given as goal

abbrev pub invariant-loop-words : goal.invariant-loop-words
invariant-loop-words l = preceded l.list (each pattern (drop l.words-index l.arguments)) ≡ each pattern l.arguments
