use Rattle.std.proofs.Common.{arith}
use Rattle.std.proofs.lemmas.Grind.{common_steps}
use Rattle.click_lines.proofs.Packets.{one_more}
use Rattle.click_lines.proofs.packet.packets_word.Goals as goal

pub loop-packet-preserved : goal.loop-packet-preserved
loop-packet-preserved c =
    rw (one_more c.in-Some.rest.now c.loop-packet.packet-index c.packet-item.result c.loop-packet-test.true c.packet-item.is) (grind (
      arith,
      common_steps,
      c.loop-packet.invariant,
    ))
