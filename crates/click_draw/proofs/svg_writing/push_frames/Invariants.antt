use Rattle.std.proofs.Common.{◌≡◌, ◌++◌, take}
use Rattle.std.specs.List.{flat_map}
use Rattle.click_draw.specs.Svg.{frame_svg}
use Rattle.click_draw.proofs.svg_writing.push_frames.Given as goal

abbrev pub invariant-loop-frame : goal.invariant-loop-frame
invariant-loop-frame l = l.text.items ≡ l.initial.text.items ++ flat_map frame_svg (take l.frame-index l.frames)
