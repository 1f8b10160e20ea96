use Rattle.std.proofs.Common.{◌≡◌, ℕ, length}
use Rattle.click_draw.specs.Picture.{EachAt}
use Rattle.click_draw.specs.declared.placing.Slot.{Slot}
use Rattle.click_draw.proofs.laying_out.slots_of.Given as goal

abbrev pub invariant-loop-node : goal.invariant-loop-node
invariant-loop-node l = record {
  all : length l.slots.items ≡ l.node;
  each : EachAt (λ (n : ℕ) (s : Slot). s.node ≡ n) l.slots.items;
}
