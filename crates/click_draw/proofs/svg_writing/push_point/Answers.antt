use Rattle.std.proofs.Common.{append_assoc}
use Rattle.click_draw.specs.Svg.{next_point}
use Rattle.click_draw.proofs.svg_writing.push_point.Goals as goal

pub returns : goal.returns
unfolding next_point
returns c =
    rw (
      c.in_ok-push_pair.ensures,
      c.in_ok-extend_from_slice.ensures.items,
    ) (simp append_assoc)
