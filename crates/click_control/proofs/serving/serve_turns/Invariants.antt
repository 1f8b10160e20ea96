use Rattle.std.proofs.Common.{◌≡◌, ◌+◌, ◌*◌, ◌≤◌, [], length}
use Rattle.click_control.specs.Taking.{to_come}
use Rattle.click_control.specs.kept.Going.{SoFar}
use Rattle.click_control.proofs.serving.serve_turns.Given as goal

-- Each command that was read is answered. A read returns at most 4,096 bytes, and a command has at
-- least one.
abbrev pub invariant-loop-reads : goal.invariant-loop-reads
invariant-loop-reads g l =
    let input = g.R.Source.input in
    let output = g.W.Sink.output in
    record {
      so_far : SoFar g.P.Port.asks g.T.Turns.turn g.T.Turns.done l.fn.readonly l.fn.reads l.fn.port l.port l.fn.turns l.turns (input l.fn.reader) (input l.reader)
          (output l.fn.writer) (output l.writer) l.session l.taken l._reads;
      all_taken : to_come l.session [] ≡ [];
      room : length l.piece ≡ 4096;
      bound : l.taken + length l.session.bytes ≤ l._reads * 4096;
    }
