use Rattle.click_base.proofs.BlanksAround.{around}
use Rattle.click_base.proofs.laws.blanks_around_a_text_are_left_out.Goals as goal

pub returns : goal.returns
returns c = around
