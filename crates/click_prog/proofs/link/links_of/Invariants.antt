use Rattle.std.proofs.Common.{take}
use Rattle.std.specs.List.{All, AllPairs, AllZip}
use Rattle.click_prog.specs.Links.{AreApart, HasTwoPlaces}
use Rattle.click_prog.proofs.Linked.{Spells}
use Rattle.click_prog.proofs.link.links_of.Given as goal

abbrev pub invariant-loop-value : goal.invariant-loop-value
invariant-loop-value l = record { each : AllZip Spells (take l.value-index l.values) l.links.items; distinct : All HasTwoPlaces l.links.items; apart : AllPairs AreApart l.links.items }
