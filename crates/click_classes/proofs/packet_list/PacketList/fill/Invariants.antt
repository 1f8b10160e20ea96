use Rattle.std.proofs.Common.{◌≡◌, take}
use Rattle.click_classes.proofs.packet_list.PacketList.fill.Given as goal

abbrev pub invariant-loop-place : goal.invariant-loop-place
invariant-loop-place l = record {
  room : l.self.capacity ≡ l.initial.self.capacity;
  kept : l.self.packets ≡ take l.place l.old.packets;
}
