use Rattle.std.proofs.Common.{◌≡◌, ◌≤◌, [], length, false, vec_capacity}
use Rattle.click_streams.specs.Peers.{HasWritten}
use Rattle.click_prog.specs.Buffers.{taken, Grew}
use Rattle.click_prog.proofs.pcap.buffered.Buffered.flush.Given as goal

-- The bytes that were taken are written or in the buffer, the sink grew, and no write has failed.
abbrev pub invariant-loop-self : goal.invariant-loop-self
invariant-loop-self g l =
    let output = g.O.Sink.output in
    record {
      kept : HasWritten (taken output l.fn.self) (taken output (record { sink = l.self-inside.sink; held = l.self-inside.held.items })) [] false;
      good : l.self-inside.failed ≡ false;
      sound : (output l.self-inside.sink).failed ≡ false;
      room : 65536 ≤ vec_capacity l.self-inside.held;
      grew : Grew g.B.SinkStart.held (output l.self-inside.sink).contents;
    }

abbrev pub decreases-loop-self : goal.decreases-loop-self
decreases-loop-self g l = length l.self-inside.held.items
