use Rattle.click_base.proofs.BlanksAround.{left_out, first, last}
use Rattle.click_base.proofs.laws.only_blanks_at_the_ends_are_left_out.Goals as goal

pub returns : goal.returns
returns c = record { left_out = left_out; first = first; last = last }
