use Rattle.std.proofs.Common.{append_assoc}
use Rattle.click_draw.specs.Svg.{pair}
use Rattle.click_draw.proofs.svg_writing.push_pair.Goals as goal

pub returns : goal.returns
unfolding pair
returns c =
    rw (
      c.in_ok-push_number-2.ensures,
      c.in_ok-extend_from_slice.ensures.items,
      c.in_ok-push_number.ensures,
    ) (simp append_assoc)
