use Rattle.std.proofs.Common.{◌≡◌}
use Rattle.click_engine.specs.kept.Taking.{IsKeptBefore}
use Rattle.click_engine.proofs.OfPlants.ElementTakeOver.{taken_from}
use Rattle.click_engine.proofs.plant.Plant.take_over.Given as goal

-- the elements from `at` on have taken over, and those before it find what they have to take over
abbrev pub invariant-loop-at : goal.invariant-loop-at
invariant-loop-at l = record {
  taken : l.self ≡ record l.initial.self { elements = taken_from l.initial.old l.initial.self.net.names l.initial.self.elements l.at };
  kept : IsKeptBefore l.initial.self.net.names l.at l.initial.old l.old;
}
