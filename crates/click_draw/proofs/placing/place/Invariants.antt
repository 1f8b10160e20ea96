use Rattle.std.proofs.Common.{◌≡◌, ℕ, ◌<◌, length, get_or}
use Rattle.click_draw.specs.kept.Placing.{ArePacked, IsNear, IsSized}
use Rattle.click_draw.specs.declared.placing.Slot.{Slot}
use Rattle.click_draw.proofs.placing.place.Given as goal

abbrev pub invariant-loop-drawn : goal.invariant-loop-drawn
invariant-loop-drawn l = record {
  all : length l.boxes.items ≡ length l.widths;
  packed : ArePacked l.boxes.items l.pen;
  near : IsNear l.drawn l.pen;
  sized : (j : ℕ) (d : Slot) → j < l.drawn → IsSized l.widths l.boxes.items (get_or l.slots j d).node;
}
