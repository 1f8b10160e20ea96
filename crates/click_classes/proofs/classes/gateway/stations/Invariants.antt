use Rattle.std.proofs.Common.{◌≡◌, drop}
use Rattle.click_classes.specs.Made.{station}
use Rattle.click_classes.specs.Steps.{each}
use Rattle.click_classes.proofs.OfArguments.ListParts.{preceded}
use Rattle.click_classes.proofs.classes.gateway.stations.Given as goal

abbrev pub invariant-loop-words : goal.invariant-loop-words
invariant-loop-words l = preceded l.list (each station (drop l.words-index l.arguments)) ≡ each station l.arguments
