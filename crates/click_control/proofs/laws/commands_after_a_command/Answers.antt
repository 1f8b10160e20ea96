use Rattle.click_control.proofs.LineRests.{after_whole}
use Rattle.click_control.proofs.laws.commands_after_a_command.Goals as goal

pub returns : goal.returns
returns c = λ line end more d none short is says on. after_whole line end more d (record { no_end = none; short = short }) is says on
