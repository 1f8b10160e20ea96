use Rattle.std.proofs.Common.{All}
use Rattle.click_draw.specs.Picture.{IsPointInside}
use Rattle.click_draw.proofs.lines.points_of.Given as goal

abbrev pub invariant-loop-bend : goal.invariant-loop-bend
invariant-loop-bend l = All (IsPointInside l.size.width l.size.height) l.points
