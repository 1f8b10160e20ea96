use Rattle.std.proofs.Common.{append_assoc}
use Rattle.click_draw.specs.Svg.{outline}
use Rattle.click_draw.proofs.svg_writing.push_outline.Goals as goal

pub returns : goal.returns
unfolding outline
returns c =
    rw (
      c.in_ok-extend_from_slice-5.ensures.items,
      c.in_ok-extend_from_slice-4.ensures.items,
      c.in_ok-push_pair.ensures,
      c.in_ok-extend_from_slice-3.ensures.items,
      c.in_ok-extend_from_slice-2.ensures.items,
      c.in_ok-extend_from_slice.ensures.items,
    ) (simp append_assoc)
