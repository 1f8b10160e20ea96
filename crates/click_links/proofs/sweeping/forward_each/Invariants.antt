use Rattle.std.proofs.Common.{◌≡◌, ◌≤◌, length, take, vec_len, vec_capacity}
use Rattle.click_links.specs.Turns.{SameSeat, names_of}
use Rattle.click_links.specs.Forwarding.{Forwards}
use Rattle.click_links.specs.Sweeps.{EachTurn}
use Rattle.click_links.proofs.sweeping.forward_each.Given as goal

abbrev pub invariant-loop-device : goal.invariant-loop-device
invariant-loop-device g l = record {
  same : SameSeat l.initial.seat l.seat;
  room : (vec_len l.turns ≡ l.device-index) × (length l.devices ≤ vec_capacity l.turns);
  each : EachTurn (names_of (take l.device-index l.devices)) l.initial.seat.feeds l.initial.seat.calls l.seat.calls (g.S.Outbound.attempts l.initial.sender) (g.S.Outbound.attempts l.sender) l.turns.items;
  forwards : Forwards (names_of l.devices) l.initial.seat.calls l.seat.calls (g.S.Outbound.attempts l.initial.sender) (g.S.Outbound.attempts l.sender);
}
