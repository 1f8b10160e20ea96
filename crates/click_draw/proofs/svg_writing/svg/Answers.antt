use Rattle.std.proofs.Common.{append_assoc}
use Rattle.click_draw.specs.Svg.{svg_of}
use Rattle.click_draw.proofs.svg_writing.svg.Goals as goal

pub returns : goal.returns
unfolding svg_of
returns c =
    rw (
      c.in_ok-extend_from_slice-2.ensures.items,
      c.in_ok-push_figures.ensures,
      c.in_ok-push_lines.ensures,
      c.in_ok-push_frames.ensures,
      c.in_ok-extend_from_slice.ensures.items,
      c.in_ok-push_head.ensures,
      c.new-text.ensures.items,
    ) (simp (append_assoc, c.as_slice.ensures, c.as_slice-2.ensures, c.as_slice-3.ensures))
