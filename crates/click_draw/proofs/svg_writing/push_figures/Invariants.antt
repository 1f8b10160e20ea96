use Rattle.std.proofs.Common.{◌≡◌, ◌++◌, take}
use Rattle.std.specs.List.{flat_map}
use Rattle.click_draw.specs.Svg.{figure_svg}
use Rattle.click_draw.proofs.svg_writing.push_figures.Given as goal

abbrev pub invariant-loop-figure : goal.invariant-loop-figure
invariant-loop-figure l = l.text.items ≡ l.initial.text.items ++ flat_map figure_svg (take l.figure-index l.figures)
