use Rattle.std.proofs.Common.{◌≡◌, ◌++◌, take}
use Rattle.click_handlers.specs.Reads.{neighbour_lines}
use Rattle.click_handlers.proofs.texts.push_neighbours.Given as goal

abbrev pub invariant-loop-place : goal.invariant-loop-place
invariant-loop-place l = l.text.items ≡ l.initial.text.items ++ neighbour_lines (take l.place l.table)
