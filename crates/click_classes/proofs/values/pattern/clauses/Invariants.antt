use Rattle.std.proofs.Common.{◌≡◌, drop}
use Rattle.click_classes.specs.Patterns.{clause}
use Rattle.click_classes.specs.Steps.{each}
use Rattle.click_classes.proofs.OfArguments.ListParts.{preceded}
use Rattle.click_classes.proofs.values.pattern.clauses.Given as goal

abbrev pub invariant-loop-word : goal.invariant-loop-word
invariant-loop-word l = preceded l.list (each clause (drop l.word-index l.words)) ≡ each clause l.words
