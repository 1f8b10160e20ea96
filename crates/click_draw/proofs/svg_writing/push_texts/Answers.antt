use Rattle.std.proofs.Common.{append_assoc}
use Rattle.click_draw.specs.Svg.{texts}
use Rattle.click_draw.proofs.svg_writing.push_texts.Goals as goal

pub returns : goal.returns
unfolding texts
returns c =
    rw (
      c.in_ok-extend_from_slice-6.ensures.items,
      c.in_ok-extend_from_slice-5.ensures.items,
      c.in_ok-extend_from_slice-4.ensures.items,
      c.in_ok-push_number-2.ensures,
      c.in_ok-extend_from_slice-3.ensures.items,
      c.in_ok-push_name.ensures,
      c.in_ok-extend_from_slice-2.ensures.items,
      c.in_ok-push_number.ensures,
      c.in_ok-extend_from_slice.ensures.items,
    ) (simp (append_assoc, c.as_slice.ensures, c.name.ensures))
