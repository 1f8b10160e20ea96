use Rattle.click_control.proofs.LineRests.{after_last}
use Rattle.click_control.proofs.laws.nothing_after_the_last_command.Goals as goal

pub returns : goal.returns
returns c = λ line end more d none short is says last. after_last line end more d (record { no_end = none; short = short }) is says last
