use Rattle.std.proofs.Common.{◌≡◌, length, All}
use Rattle.click_draw.specs.Picture.{EachAt, IsLine, IsLineInside}
use Rattle.click_draw.proofs.lines.lines_of.Given as goal

abbrev pub invariant-loop-number : goal.invariant-loop-number
invariant-loop-number l = record {
  all : length l.lines ≡ l.number;
  each : EachAt (IsLine l.figures l.connections) l.lines;
  inside : All (IsLineInside l.size.width l.size.height) l.lines;
}
