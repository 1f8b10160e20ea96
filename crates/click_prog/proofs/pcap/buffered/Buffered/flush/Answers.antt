use Rattle.std.proofs.Common.{rules, arith}
use Rattle.std.proofs.lemmas.Grind.{common_steps}
use Rattle.click_prog.proofs.Outputs.{Grew-more}
use Rattle.click_prog.proofs.pcap.buffered.Buffered.flush.Goals as goal

pub loop-self-preserved : goal.loop-self-preserved
loop-self-preserved g c = record {
  kept = grind (arith, common_steps);
  good = c.loop-self.invariant.good;
  sound = grind (arith, common_steps);
  room = search rules;
  grew = Grew-more _ _ _ _ c.loop-self.invariant.grew c.in-Ok.ensures.bytes;
}
