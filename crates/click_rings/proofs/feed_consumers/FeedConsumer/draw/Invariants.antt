use Rattle.std.proofs.Common.{◌≡◌, ◌≤◌, ◌++◌, vec_len, vec_capacity}
use Rattle.rtrb.specs.Ring.{received, SameConsumer}
use Rattle.click_rings.proofs.feed_consumers.FeedConsumer.draw.Given as goal

abbrev pub invariant-loop : goal.invariant-loop
invariant-loop l = record {
  device : l.self-inside.device ≡ l.initial.self-inside.device;
  ring : SameConsumer l.initial.self-inside.consumer l.self-inside.consumer;
  drawn : received l.self-inside.consumer ≡ received l.initial.self-inside.consumer ++ l.taken.items;
  len : vec_len l.taken ≡ l.counter;
  room : l.most ≤ vec_capacity l.taken;
}
