use Rattle.std.proofs.Common.{length, take, refl, take_all, arith}
use Rattle.click_control.specs.Commands.{HasNoEnd}
use Rattle.click_control.proofs.StreamCommands.{commands_from-long}
use Rattle.click_control.proofs.laws.a_line_that_is_too_long.Goals as goal

pub returns : goal.returns
returns c = λ line more none len.
    let all : HasNoEnd (take (length line) line) = rw (take_all (length line) line (omega arith)) none in
    commands_from-long line more 65536 (length line) refl (omega (arith, len)) (omega arith) all
