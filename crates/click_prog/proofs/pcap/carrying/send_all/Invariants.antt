use Rattle.std.proofs.Common.{◌≡◌, List, length, false}
use Rattle.click_streams.specs.Peers.{HasWritten}
use Rattle.click_packet.specs.Packet.{Packet}
use Rattle.click_prog.specs.Carrying.{records_at}
use Rattle.click_prog.specs.Passages.{went, Gave}
use Rattle.click_prog.proofs.pcap.carrying.send_all.Given as goal

-- the packets that the sink returned so far are written
abbrev pub invariant-loop-asked : goal.invariant-loop-asked
invariant-loop-asked g l =
    let output = g.O.Sink.output in
    (sent : List Packet) × (length sent ≡ l.asked) × Gave l.fn.passage.sink l.fn.passage.router sent l.passage.router × (l.passage ≡ went l.fn.passage l.passage.router)
    × HasWritten (output l.fn.writer) (output l.writer) (records_at l.header.order l.time sent) false
