use Rattle.std.proofs.Common.{All}
use Rattle.click_draw.specs.Picture.{IsClear, IsInside}
use Rattle.click_draw.specs.declared.drawing.Frame.{Frame}
use Rattle.click_draw.proofs.frames.frames_of.Given as goal

abbrev pub invariant-loop-figure : goal.invariant-loop-figure
invariant-loop-figure l =
    All (λ (f : Frame). IsInside l.picture.size.width l.picture.size.height f.around) l.frames.items
    × All (IsClear l.picture.figures.now) l.frames.items
