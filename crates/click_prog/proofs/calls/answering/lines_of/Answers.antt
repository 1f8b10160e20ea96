use Rattle.std.proofs.Common.{◌≡◌, ◌<◌, ◌∷◌, [], ◌++◌, length, refl, arith}
use Rattle.std.specs.Io.BufRead.{strip_last}
use Rattle.click_prog.proofs.InputLines.{all_left, ended, one_read}
use Rattle.click_prog.proofs.calls.answering.lines_of.Goals as goal

pub loop-init : goal.loop-init
loop-init g c = rw c.new-lines.ensures (all_left (g.R.Read.remaining c.args.input.now))

pub loop-preserved : goal.loop-preserved
loop-preserved g c =
    let left = g.R.Read.remaining c.loop.input in
    let next = g.R.Read.remaining c.read_until.new.self in
    let read = c.read_until.new.buf.items in
    let took = rw c.new-line.ensures.items at c.in_ok-read_until.ensures.bytes in
    let some : 0 < length read = grind (arith, c.in_ok-read_until.ensures.ok, c.if-branch-eq0.false) in
    let lines : c.push.new.self ≡ c.loop.lines ++ strip_last 10 read ∷ [] = rw (c.in_ok-push.ensures.ok, c.of.ensures, c.without_end.ensures) refl in
    rw lines (one_read (g.R.Read.remaining c.args.input.now) left next c.loop.lines read c.loop.invariant took c.in_ok-read_until.ensures.rest some)

pub returns-then-branch-eq0 : goal.returns-then-branch-eq0
returns-then-branch-eq0 g c =
    ended (g.R.Read.remaining c.args.input.now) (g.R.Read.remaining c.loop.input) c.loop.lines c.loop.invariant
    (c.in_ok-read_until.ensures.end c.if-branch-eq0.true)
