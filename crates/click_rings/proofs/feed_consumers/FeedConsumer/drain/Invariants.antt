use Rattle.std.proofs.Common.{◌≡◌, ◌≤◌, ◌+◌, ◌++◌, length, vec_len, vec_capacity}
use Rattle.rtrb.specs.Ring.{received, known_items, SameConsumer}
use Rattle.click_rings.proofs.feed_consumers.FeedConsumer.drain.Given as goal

abbrev pub invariant-loop : goal.invariant-loop
invariant-loop l = record {
  device : l.self-inside.device ≡ l.initial.self-inside.device;
  ring : SameConsumer l.initial.self-inside.consumer l.self-inside.consumer;
  drawn : received l.self-inside.consumer ≡ received l.initial.self-inside.consumer ++ l.left.items;
  rest : received l.self-inside.consumer ++ known_items l.self-inside.consumer ≡ received l.initial.self-inside.consumer ++ known_items l.initial.self-inside.consumer;
  left : l.counter + length (known_items l.self-inside.consumer) ≡ l.count;
  len : vec_len l.left ≡ l.counter;
  room : l.count ≤ vec_capacity l.left;
}
