use Rattle.std.proofs.Common.{length}
use Rattle.click_lines.proofs.ByteReadback.{Left}
use Rattle.click_lines.proofs.escaping.unescaped.Given as goal

abbrev pub decreases-loop-first : goal.decreases-loop-first
decreases-loop-first l = length l.rest

abbrev pub invariant-loop-first : goal.invariant-loop-first
invariant-loop-first l = Left l.text l.bytes.items l.rest
