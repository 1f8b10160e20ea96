use Rattle.std.proofs.Common.{ℕ, List, inr, subst, false}
use Rattle.click_streams.specs.Peers.{HasWritten}
use Rattle.click_prog.specs.Buffers.{taken}
use Rattle.click_prog.proofs.Passing.{begun}
use Rattle.click_prog.proofs.pcap.carrying.carry_behind.Goals as goal

pub returns : goal.returns
returns g c = λ had took.
    let input = g.I.Source.input in
    let output = taken g.O.Sink.output in
    let held = output c.args.writer.now in
    let wrote = subst (λ (bytes : List ℕ). HasWritten held (output c.write_all.new.writer) bytes false) c.requires c.in_default.ensures.ok in
    let start = begun c.args.header.now had (input c.args.reader.now) held (output c.write_all.new.writer) c.args.passage.now took wrote in
    inr (c.carry_records.ensures had held c.args.passage.now start)
