use Rattle.click_control.proofs.LineRests.{after_blank}
use Rattle.click_control.proofs.laws.commands_after_a_blank_line.Goals as goal

pub returns : goal.returns
returns c = λ line end more none short is says. after_blank line end more (record { no_end = none; short = short }) is says
