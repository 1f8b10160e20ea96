use Rattle.std.proofs.Common.{◌≡◌, ◌≤◌, ◌+◌, length, take, vec_len, vec_capacity}
use Rattle.click_desk.proofs.polling.copy_all.Given as goal

abbrev pub invariant-loop-packet : goal.invariant-loop-packet
invariant-loop-packet l = record {
  copied : l.copies.items ≡ take l.packet-index l.packets;
  len : vec_len l.copies ≡ l.packet-index;
  room : length l.packets ≤ vec_capacity l.copies;
  rooms : length l.packets ≤ vec_len l.rooms + l.packet-index;
}
