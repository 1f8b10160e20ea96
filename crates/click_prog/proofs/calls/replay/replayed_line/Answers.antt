use Rattle.std.proofs.Common.{refl}
use Rattle.click_prog.proofs.calls.replay.replayed_line.Goals as goal

pub returns-in_ok-extend_from_slice-in-Differs-3 : goal.returns-in_ok-extend_from_slice-in-Differs-3
returns-in_ok-extend_from_slice-in-Differs-3 c =
    rw (
      c.in-Differs.is,
      c.in_ok-extend_from_slice-in-Differs-3.ensures.items,
      c.in_ok-push_words-in-Differs-2.ensures,
      c.as_slice-in-Differs.ensures,
      c.in_ok-extend_from_slice-in-Differs-2.ensures.items,
      c.in_ok-push_words-in-Differs.ensures,
      c.as_slice.ensures,
      c.in_ok-extend_from_slice-in-Differs.ensures.items,
      c.in_ok-push_number-in-Differs.ensures,
      c.in_ok-line-in-Differs.ensures.items,
    ) refl
