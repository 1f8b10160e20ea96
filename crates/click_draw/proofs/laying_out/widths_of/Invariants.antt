use Rattle.std.proofs.Common.{◌≡◌, ℕ, ◌≤◌, length, All}
use Rattle.click_draw.specs.Measures.{element_width}
use Rattle.click_draw.specs.Picture.{EachAt}
use Rattle.click_draw.proofs.laying_out.widths_of.Given as goal

abbrev pub invariant-loop-element : goal.invariant-loop-element
invariant-loop-element l = record {
  all : length l.widths.items ≡ l.element;
  each : EachAt (λ (e w : ℕ). w ≡ element_width l.net e) l.widths.items;
  small : All (λ (w : ℕ). w ≤ 32788) l.widths.items;
}
