use Rattle.std.proofs.Common.{◌≡◌, ◌+◌, take, drop, refl}
use Rattle.click_prog.proofs.Replaying.{cut_at, number_at, one_more, taken}
use Rattle.click_prog.proofs.calls.replay.replay_lines.Goals as goal

pub returns-in-Differs : goal.returns-in-Differs
returns-in-Differs g c =
    let lines = c.args.lines.now in
    let place = c.loop-line.line-index in
    let line = c.line-item.result in (
      take place lines,
      line,
      drop (place + 1) lines,
      cut_at lines place line c.loop-line-test.true c.line-item.is,
      rw c.loop-line.invariant.counted (number_at lines place c.loop-line-test.true),
      (c.loop-line.router, c.loop-line.invariant.same, rw (c.in-Differs.is, c.as_slice.ensures) at c.in_ok-replay_call.ensures),
    )

pub returns-in-NoLine : goal.returns-in-NoLine
returns-in-NoLine g c =
    let lines = c.args.lines.now in
    let place = c.loop-line.line-index in
    let line = c.line-item.result in
    let no = rw (c.in-NoLine.is, c.as_slice.ensures) at c.in_ok-replay_call.ensures in
    let stays : c.replay_call.new.router ≡ c.loop-line.router = no.1 in (
      take place lines,
      line,
      drop (place + 1) lines,
      cut_at lines place line c.loop-line-test.true c.line-item.is,
      rw c.loop-line.invariant.counted (number_at lines place c.loop-line-test.true),
      no.0,
      rw stays c.loop-line.invariant.same,
    )

pub loop-line-preserved : goal.loop-line-preserved
loop-line-preserved g c =
    let lines = c.args.lines.now in
    let place = c.loop-line.line-index in
    let line = c.line-item.result in record {
      counted = rw c.loop-line.invariant.counted refl;
      same = rw (taken lines place line c.loop-line-test.true c.line-item.is) (one_more c.args.router.now (take place lines) c.loop-line.router line
          c.replay_call.new.router c.loop-line.invariant.same (rw (c.in-Same.is, c.as_slice.ensures) at c.in_ok-replay_call.ensures));
    }
