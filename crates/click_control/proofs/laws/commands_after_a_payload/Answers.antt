use Rattle.std.proofs.Common.{sym}
use Rattle.click_control.proofs.LineRests.{after_payload}
use Rattle.click_control.proofs.LineMeanings.{parse_line-sound}
use Rattle.click_control.proofs.laws.commands_after_a_payload.Goals as goal

pub returns : goal.returns
returns c = λ line end payload more w handler n none short is says len.
    let some = (parse_line-sound line w handler n (sym says)).0 in
    after_payload line end payload more w handler n (record { no_end = none; short = short }) is says len some
