use Rattle.std.proofs.Common.{length, ◌-◌, ◌≤◌, take}
use Rattle.click_prog.specs.Reading.{Took}
use Rattle.click_prog.proofs.pcap.reading.fill.Given as goal

-- the bytes before `at` were read
abbrev pub invariant-loop-at : goal.invariant-loop-at
invariant-loop-at g l =
    let input = g.R.Source.input in
    record {
      within : l.at ≤ length l.piece;
      took : Took (input l.initial.reader) (input l.reader) (take l.at l.piece);
    }

abbrev pub decreases-loop-at : goal.decreases-loop-at
decreases-loop-at g l = length l.initial.piece - l.at
