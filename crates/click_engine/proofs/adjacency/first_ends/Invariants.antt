use Rattle.std.proofs.Common.{◌≡◌, map}
use Rattle.std.specs.List.{range_with_len}
use Rattle.click_engine.specs.kept.Tables.{first_at}
use Rattle.click_engine.proofs.adjacency.first_ends.Given as goal

abbrev pub invariant-loop-at : goal.invariant-loop-at
invariant-loop-at l = l.ends.items ≡ map (first_at l.net l.side) (range_with_len 0 l.at)
