use Rattle.click_control.proofs.PartialLines.{line_none, line_waits}
use Rattle.click_control.proofs.laws.an_unfinished_line_gives_no_command.Goals as goal

pub returns : goal.returns
returns c = record {
  none = λ line no_end short. line_none line (record { no_end = no_end; short = short });
  waits = λ line more no_end short. line_waits line more (record { no_end = no_end; short = short });
}
