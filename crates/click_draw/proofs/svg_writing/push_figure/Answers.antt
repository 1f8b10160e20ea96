use Rattle.std.proofs.Common.{append_assoc}
use Rattle.click_draw.specs.Svg.{figure_svg}
use Rattle.click_draw.proofs.svg_writing.push_figure.Goals as goal

pub returns : goal.returns
unfolding figure_svg
returns c =
    rw (
      c.in_ok-extend_from_slice-3.ensures.items,
      c.in_ok-push_outputs.ensures,
      c.in_ok-push_inputs.ensures,
      c.in_ok-push_box.ensures,
      c.in_ok-push_move.ensures,
      c.in_ok-extend_from_slice-2.ensures.items,
      c.in_ok-push_number.ensures,
      c.in_ok-extend_from_slice.ensures.items,
    ) (simp (append_assoc, c.as_slice.ensures, c.as_slice-2.ensures))
