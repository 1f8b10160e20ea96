use Rattle.std.proofs.Common.{◌≡◌, length}
use Rattle.click_draw.specs.Picture.{EachAt}
use Rattle.click_draw.specs.kept.Boxed.{IsBoxed}
use Rattle.click_draw.proofs.laying_out.figures_of.Given as goal

abbrev pub invariant-loop-element : goal.invariant-loop-element
invariant-loop-element l = record {
  all : length l.figures.items ≡ l.element;
  each : EachAt (IsBoxed l.net l.boxes) l.figures.items;
}
