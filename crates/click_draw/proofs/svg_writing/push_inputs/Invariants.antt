use Rattle.std.proofs.Common.{◌≡◌, ◌++◌, take}
use Rattle.std.specs.List.{flat_map}
use Rattle.click_draw.specs.Svg.{input_svg}
use Rattle.click_draw.proofs.svg_writing.push_inputs.Given as goal

abbrev pub invariant-loop-mark : goal.invariant-loop-mark
invariant-loop-mark l = l.text.items ≡ l.initial.text.items ++ flat_map input_svg (take l.mark-index l.marks)
