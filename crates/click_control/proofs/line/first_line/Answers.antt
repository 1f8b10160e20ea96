use Rattle.std.proofs.Common.{length, take, refl, take_all, arith}
use Rattle.click_control.specs.Commands.{HasNoEnd}
use Rattle.click_control.proofs.StreamCommands.{commands_from-long}
use Rattle.click_control.proofs.SessionLines.{taken_long, partial_line}
use Rattle.click_control.proofs.line.first_line.Goals as goal

pub returns-in-None : goal.returns-in-None
returns-in-None c =
    let bytes = c.args.bytes.now in
    let none : HasNoEnd (take (length bytes) bytes) = rw (take_all (length bytes) bytes (omega arith)) c.in-None.ensures in
    rw c.too_long.ensures (taken_long bytes (omega arith) (λ more. commands_from-long bytes more 65536 (length bytes) refl (omega arith) (omega arith) none))

pub returns-in-None-2 : goal.returns-in-None-2
returns-in-None-2 c = partial_line c.args.bytes.now c.in-None-2.ensures (omega arith)

pub returns-in-Some : goal.returns-in-Some
returns-in-Some c =
    let bytes = c.args.bytes.now in
    let found = c.in-Some.ensures in
    rw c.too_long-in-Some.ensures
    (taken_long bytes (omega (arith, found.0)) (λ more. commands_from-long bytes more 65536 c.in-Some.len refl (omega arith) (omega (arith, found.0)) found.1))
