use Rattle.std.proofs.Common.{◌<◌, length, sym, arith}
use Rattle.std.proofs.lemmas.Bool.{eqb-false}
use Rattle.click_control.proofs.StreamCommands.{commands_from-empty, commands_from-over, commands_from-feed, commands_from-no_feed}
use Rattle.click_control.specs.kept.Lines.{reading_of}
use Rattle.click_control.proofs.start.line_start.Goals as goal

pub returns-then-is_empty : goal.returns-then-is_empty
returns-then-is_empty c = commands_from-empty (reading_of c.args.start) c.args.bytes.now (sym c.if-is_empty.ensures)

pub returns-then-bytes-eq10 : goal.returns-then-bytes-eq10
returns-then-bytes-eq10 c =
    let some = eqb-false (length c.args.bytes.now) 0 (sym c.if-is_empty.ensures) in
    let q : 0 < length c.args.bytes.now = omega arith in
    (omega arith, λ more. rw c.in-AfterReturn.is (commands_from-feed c.args.bytes.now more q c.if-bytes-eq10.true))

pub returns-else-bytes-eq10 : goal.returns-else-bytes-eq10
returns-else-bytes-eq10 c =
    let some = eqb-false (length c.args.bytes.now) 0 (sym c.if-is_empty.ensures) in
    let q : 0 < length c.args.bytes.now = omega arith in
    (omega arith, λ more. rw c.in-AfterReturn.is (commands_from-no_feed c.args.bytes.now more q c.if-bytes-eq10.false))

pub returns-in-Over : goal.returns-in-Over
returns-in-Over c = rw c.in-Over.is (commands_from-over c.args.bytes.now)
