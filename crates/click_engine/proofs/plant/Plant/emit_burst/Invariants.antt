use Rattle.std.proofs.Common.{◌≡◌, ◌+◌, ◌-◌}
use Rattle.click_engine.specs.Rounds.{bursts}
use Rattle.click_engine.proofs.plant.Plant.emit_burst.Given as goal

-- the remaining packets are emitted by the current plant
abbrev pub invariant-loop-packet : goal.invariant-loop-packet
invariant-loop-packet l = record {
  plant : (bursts (l.most - l._packet) l.at l.self).plant ≡ (bursts l.most l.at l.fn.self).plant;
  packets : l.packets + (bursts (l.most - l._packet) l.at l.self).packets ≡ (bursts l.most l.at l.fn.self).packets;
  few : l.packets ≡ l._packet;
  net : l.self.net ≡ l.fn.self.net;
}
