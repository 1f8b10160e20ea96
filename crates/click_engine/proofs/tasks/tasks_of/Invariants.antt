use Rattle.std.proofs.Common.{All, take}
use Rattle.click_engine.specs.Tasks.{AreTasks}
use Rattle.click_engine.specs.kept.Tasks.{places_of, IsTaskIn}
use Rattle.click_engine.proofs.tasks.tasks_of.Given as goal

abbrev pub invariant-loop-at : goal.invariant-loop-at
invariant-loop-at l = record {
  places : AreTasks l.net 0 (take l.at l.net.shapes) (places_of l.tasks.items);
  classes : All (IsTaskIn l.net.shapes) l.tasks.items;
}
