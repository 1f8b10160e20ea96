use Rattle.std.proofs.Common.{append_assoc}
use Rattle.click_draw.specs.Svg.{output_svg}
use Rattle.click_draw.proofs.svg_writing.push_output.Goals as goal

pub returns : goal.returns
unfolding output_svg
returns c =
    rw (
      c.in_ok-push_rim.ensures,
      c.in_ok-push_outline.ensures,
    ) (simp (append_assoc, c.kind_name.ensures, c.saturating_sub-inner.ensures, c.saturating_sub-outer.ensures, c.saturating_sub.ensures, c.saturating_sub-2.ensures))
