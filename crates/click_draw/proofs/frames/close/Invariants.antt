use Rattle.std.proofs.Common.{All}
use Rattle.click_draw.specs.Picture.{IsClear, IsInside}
use Rattle.click_draw.specs.declared.drawing.Frame.{Frame}
use Rattle.click_draw.proofs.frames.close.Given as goal

abbrev pub invariant-loop-level : goal.invariant-loop-level
invariant-loop-level l =
    All (λ (f : Frame). IsInside l.picture.size.width l.picture.size.height f.around) l.frames.items
    × All (IsClear l.picture.figures.now) l.frames.items
