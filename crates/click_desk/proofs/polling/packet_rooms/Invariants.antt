use Rattle.std.proofs.Common.{◌≡◌, ◌≤◌, vec_len, vec_capacity}
use Rattle.click_desk.proofs.polling.packet_rooms.Given as goal

abbrev pub invariant-loop : goal.invariant-loop
invariant-loop l = record {
  len : vec_len l.rooms ≡ l.counter;
  room : l.count ≤ vec_capacity l.rooms;
}
