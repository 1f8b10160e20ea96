use Rattle.std.proofs.Common.{◌≡◌, ◌++◌}
use Rattle.std.specs.Vec.Iter.{into_iter_items}
use Rattle.click_engine.specs.Plant.{elements_from}
use Rattle.click_engine.proofs.plant.elements_of.Given as goal

-- the states up to here are in elements, and the others remain
abbrev pub invariant-loop-state : goal.invariant-loop-state
invariant-loop-state l = record {
  made : l.elements.items ≡ elements_from l.net 0 l.yielded;
  rest : l.fn.states.items ≡ l.yielded ++ into_iter_items l.state-iterator;
  can_next : (goal.iterator-loop-state).can_next l.state-iterator;
  finite : (goal.iterator-loop-state).is_finite l.state-iterator;
}
