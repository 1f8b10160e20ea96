use Rattle.std.proofs.Common.{append_assoc}
use Rattle.click_draw.specs.Svg.{box_svg}
use Rattle.click_draw.proofs.svg_writing.push_box.Goals as goal

pub returns : goal.returns
unfolding box_svg
returns c =
    rw (
      c.in_ok-push_texts.ensures,
      c.in_ok-push_ribs.ensures,
      c.in_ok-extend_from_slice-2.ensures.items,
      c.in_ok-push_size.ensures,
      c.in_ok-extend_from_slice.ensures.items,
    ) (simp (append_assoc, c.stores.ensures))
