use Rattle.std.proofs.Common.{length}
use Rattle.click_lines.proofs.PacketReadback.{Left}
use Rattle.click_lines.proofs.packet.packets_in.Given as goal

abbrev pub invariant-loop-rest : goal.invariant-loop-rest
invariant-loop-rest l = Left l.word l.packets l.rest

abbrev pub decreases-loop-rest : goal.decreases-loop-rest
decreases-loop-rest l = length l.rest
