use Rattle.std.proofs.Common.{append_assoc}
use Rattle.click_draw.specs.Svg.{frame_svg}
use Rattle.click_draw.proofs.svg_writing.push_frame.Goals as goal

pub returns : goal.returns
unfolding frame_svg
returns c =
    rw (
      c.in_ok-extend_from_slice-4.ensures.items,
      c.in_ok-push_name.ensures,
      c.in_ok-extend_from_slice-3.ensures.items,
      c.in_ok-push_size.ensures,
      c.in_ok-extend_from_slice-2.ensures.items,
      c.in_ok-push_move.ensures,
      c.in_ok-extend_from_slice.ensures.items,
    ) (simp (append_assoc, c.as_slice.ensures))
