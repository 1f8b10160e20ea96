use Rattle.std.proofs.Common.{length, ◌+◌, ◌≤◌, ℕ}
use Rattle.click_streams.specs.Peers.{Input, Output}
use Rattle.click_control.specs.kept.Going.{SoFar}
use Rattle.click_control.proofs.serving.answer_commands.Given as goal

-- The session that was in progress when the loop began has come to the current state. Each command
-- that was taken up had at least one byte.
abbrev pub invariant-loop-command : goal.invariant-loop-command
invariant-loop-command g l =
    let asks = g.P.Port.asks in
    let turns = g.T.Turns in
    let output = g.W.Sink.output in
    record {
      so_far : (most : ℕ) (first : _) (was : _) (had left : Input) (held : Output) (reads : ℕ)
          → SoFar asks turns.turn turns.done l.fn.readonly most first l.initial.port was l.initial.turns had left held (output l.initial.writer) l.initial.session l.initial.taken reads
          → SoFar asks turns.turn turns.done l.fn.readonly most first l.port was l.turns had left held (output l.writer) l.session l.taken reads;
      bound : l.taken + length l.session.bytes ≤ l.initial.taken + length l.initial.session.bytes;
    }

abbrev pub decreases-loop-command : goal.decreases-loop-command
decreases-loop-command g l = length l.session.bytes
