use Rattle.std.proofs.Common.{◌≡◌, ◌≤◌, take}
use Rattle.std.specs.Prelude.{vec_capacity}
use Rattle.click_classes.proofs.neighbours.add_copies.Given as goal

abbrev pub invariant-loop-other : goal.invariant-loop-other
invariant-loop-other l = record {
  made : l.places.items ≡ take l.other-index l.others;
  room : 256 ≤ vec_capacity l.places;
}
