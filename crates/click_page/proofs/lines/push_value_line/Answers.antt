use Rattle.std.proofs.Common.{append_assoc}
use Rattle.click_page.specs.Lines.{value_line}
use Rattle.click_page.proofs.lines.push_value_line.Goals as goal

pub returns : goal.returns
unfolding value_line
returns c =
    rw (
      c.in_ok-extend_from_slice-7.ensures.items,
      c.in_ok-extend_from_slice-6.ensures.items,
      c.in_ok-extend_from_slice-5.ensures.items,
      c.in_ok-push_escaped-3.ensures,
      c.in_ok-extend_from_slice-4.ensures.items,
      c.in_ok-push_escaped-2.ensures,
      c.in_ok-extend_from_slice-3.ensures.items,
      c.in_ok-push_escaped.ensures,
      c.in_ok-extend_from_slice-2.ensures.items,
      c.in_ok-extend_from_slice.ensures.items,
    ) (simp (append_assoc, c.as_slice.ensures, c.name.ensures, c.as_slice-2.ensures))
