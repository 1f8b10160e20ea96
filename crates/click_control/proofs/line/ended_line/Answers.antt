use Rattle.std.proofs.Common.{take}
use Rattle.click_control.proofs.LineMeanings.{parse_line-sound}
use Rattle.click_control.proofs.SessionLines.{taken_blank, taken_whole}
use Rattle.click_control.proofs.line.ended_line.Goals as goal

pub payload-requires-clause-some : goal.payload-requires-clause-some
payload-requires-clause-some c =
    let parsed = rw c.in-Announces.is at c.in_ok-parse_line.ensures in
    (parse_line-sound (take c.args.len c.args.bytes.now) c.in-Announces.direction c.in-Announces.handler c.in-Announces.count parsed).0

pub returns-in-Blank : goal.returns-in-Blank
returns-in-Blank c =
    let parsed = rw c.in-Blank.is at c.in_ok-parse_line.ensures in
    taken_blank c.args.bytes.now c.args.len _ c.requires parsed c.after_end.ensures

pub returns-in-Whole : goal.returns-in-Whole
returns-in-Whole c =
    let parsed = rw c.in-Whole.is at c.in_ok-parse_line.ensures in
    taken_whole c.args.bytes.now c.args.len c.in-Whole.command _ c.requires parsed c.start_after-start.ensures
