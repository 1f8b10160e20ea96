use Rattle.std.proofs.Common.{◌≤◌, ◌-◌, length, take, false}
use Rattle.click_streams.specs.Peers.{HasWritten}
use Rattle.click_streams.proofs.writes.write_all.Given as goal

-- the bytes before `at` are written
abbrev pub invariant-loop-at : goal.invariant-loop-at
invariant-loop-at g l =
    let output = g.W.Sink.output in
    record {
      within : l.at ≤ length l.bytes;
      written : HasWritten (output l.initial.writer) (output l.writer) (take l.at l.bytes) false;
    }

abbrev pub decreases-loop-at : goal.decreases-loop-at
decreases-loop-at g l = length l.bytes - l.at
