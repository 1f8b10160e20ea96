use Rattle.std.proofs.Common.{◌+◌}
use Rattle.click_links.specs.Fates.{AllBelow, Receives}
use Rattle.click_links.proofs.receiver.receive_with.Given as goal

abbrev pub invariant-loop : goal.invariant-loop
invariant-loop g l = record {
  received : Receives (g.L.Inbound.received l.initial.link) (g.L.Inbound.received l.link) l.initial.intake l.intake l.dropped;
  below : AllBelow l.dropped (l.counter + 1);
  callable : goal.F-IsAlwaysCallable g l.tell;
}
