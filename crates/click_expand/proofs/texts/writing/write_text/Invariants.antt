use Rattle.std.proofs.Common.{◌≡◌, ◌+◌, length}
use Rattle.click_expand.specs.kept.Buffered.{AreKept, BeginWithin, weight}
use Rattle.click_expand.proofs.OfTexts.TextBuffer.{AreLeft}
use Rattle.click_expand.proofs.texts.writing.write_text.Given as goal

abbrev pub invariant-steps : goal.invariant-steps
invariant-steps l = record {
  kept : AreKept l.config l.instances l.buffer;
  room : l.buffer.room + length l.buffer.text.items ≡ l.fn.buffer.room + length l.fn.buffer.text.items;
  begin : BeginWithin (length l.buffer.text.items) l.steps.items;
  left : AreLeft l.config l.instances l.first l.fn.buffer.text.items l.steps.items l.buffer.text.items;
}

abbrev pub decreases-steps : goal.decreases-steps
decreases-steps l = weight l.config.text l.steps.items
