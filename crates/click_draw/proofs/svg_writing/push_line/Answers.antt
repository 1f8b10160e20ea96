use Rattle.std.proofs.Common.{append_assoc}
use Rattle.click_draw.specs.Svg.{line_svg}
use Rattle.click_draw.proofs.svg_writing.push_line.Goals as goal

pub returns : goal.returns
unfolding line_svg
returns c =
    rw (
      c.in_ok-extend_from_slice-3.ensures.items,
      c.in_ok-push_point.ensures,
      c.in_ok-push_points.ensures,
      c.in_ok-push_pair.ensures,
      c.in_ok-extend_from_slice-2.ensures.items,
      c.in_ok-push_number.ensures,
      c.in_ok-extend_from_slice.ensures.items,
    ) (simp (append_assoc, c.as_slice.ensures))
