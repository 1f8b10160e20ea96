use Rattle.std.proofs.Common.{List, ◌≡◌}
use Rattle.click_expand.specs.Instances.{PrimitiveElement}
use Rattle.click_expand.specs.kept.KnownInstances.{KnownInstance, AreInstances}
use Rattle.click_expand.specs.kept.Buffered.{AreKept}
use Rattle.click_expand.proofs.OfTexts.ElementTexts.{AreMade}
use Rattle.click_expand.proofs.texts.elements.elements_of.Given as goal

abbrev pub invariant-loop-place : goal.invariant-loop-place
invariant-loop-place l = record {
  same : l.place-items ≡ l.instances.primitive_elements.items;
  kept : AreKept l.config l.instances.instances.items l.buffer;
  made : (primitive_elements : List PrimitiveElement) (known : List KnownInstance) → AreInstances l.config l.instances.instances.items l.instances.primitive_elements.items known primitive_elements → AreMade primitive_elements l.place-index l.elements.items l.buffer.room;
}
