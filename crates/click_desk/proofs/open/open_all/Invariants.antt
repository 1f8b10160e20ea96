use Rattle.std.proofs.Common.{◌≡◌, ◌≤◌, [], length, map, vec_len, vec_capacity}
use Rattle.std.specs.List.{All}
use Rattle.click_rings.specs.Feeds.{name_of}
use Rattle.click_desk.proofs.open.open_all.Given as goal

abbrev pub invariant-loop-inlet : goal.invariant-loop-inlet
invariant-loop-inlet l = record {
  names : map name_of l.consumers.items ≡ l.yielded;
  fresh : All (λ t. t.drawn ≡ []) l.consumers.items;
  len : vec_len l.consumers ≡ length l.yielded;
  room : length l.fn.inlets.items ≤ vec_capacity l.consumers;
}
