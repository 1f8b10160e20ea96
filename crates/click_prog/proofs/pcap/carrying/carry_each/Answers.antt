use Rattle.std.proofs.Common.{◌+◌, [], ◌∷◌, ◌++◌, ℕ, Err, inr, ap, sym, subst, ◌∙◌, arith}
use Rattle.click_capture.specs.Captures.{Record}
use Rattle.click_prog.specs.Buffers.{taken}
use Rattle.click_prog.specs.Carrying.{Ends}
use Rattle.click_prog.specs.Reading.{record_in}
use Rattle.click_prog.specs.declared.pcap.carry_fault.CarryFault.{CarryFault}
use Rattle.click_prog.proofs.Flushing.{carried-flushed}
use Rattle.click_prog.proofs.Passing.{ended, interrupted, carried-more, one-more, next-at}
use Rattle.click_prog.proofs.pcap.carrying.carry_each.Goals as goal

pub returns-in-Err : goal.returns-in-Err
returns-in-Err g c = λ had held first h.
    let output = taken g.O.Sink.output in
    let so_far = c.loop-before.invariant had held first h in
    inr (so_far.0, output c.loop-before.writer, so_far.1, c.in-Err.ensures.err)

pub returns-in-Ok-End : goal.returns-in-Ok-End
returns-in-Ok-End g c = λ had held first h.
    let input = g.I.Source.input in
    let output = taken g.O.Sink.output in
    let so_far = c.loop-before.invariant had held first h in
    let flushed =
    carried-flushed c.args.header.now had (input c.loop-before.reader) held (output c.loop-before.writer) (output c.flush_before_wait.new.writer) first c.loop-before.passage so_far.0
    so_far.1 c.in_default.ensures.ok in
    let read = rw c.in-Ok-End.field-0-is at c.in-Ok-End.ensures.reads in
    let all = ended c.args.header.now had (input c.loop-before.reader) (input c.read_record.new.reader) held (output c.flush_before_wait.new.writer) first c.loop-before.passage so_far.0 flushed read in
    (so_far.0, all.0, all.1)

pub returns-in-Err-ReadFailed : goal.returns-in-Err-ReadFailed
returns-in-Err-ReadFailed g c = λ had held first h.
    let input = g.I.Source.input in
    let output = taken g.O.Sink.output in
    let so_far = c.loop-before.invariant had held first h in
    let flushed =
    carried-flushed c.args.header.now had (input c.loop-before.reader) held (output c.loop-before.writer) (output c.flush_before_wait.new.writer) first c.loop-before.passage so_far.0
    so_far.1 c.in_default.ensures.ok in
    (so_far.0, input c.loop-before.reader, flushed, rw c.in-Err-ReadFailed.field-0-is at c.in-Err-ReadFailed.ensures.reads)

pub returns-in-Err-Cut : goal.returns-in-Err-Cut
returns-in-Err-Cut g c = λ had held first h.
    let input = g.I.Source.input in
    let output = taken g.O.Sink.output in
    let so_far = c.loop-before.invariant had held first h in
    let flushed =
    carried-flushed c.args.header.now had (input c.loop-before.reader) held (output c.loop-before.writer) (output c.flush_before_wait.new.writer) first c.loop-before.passage so_far.0
    so_far.1 c.in_default.ensures.ok in
    let read = rw c.in-Err-Cut.field-0-is at c.in-Err-Cut.ensures.reads in
    (so_far.0, input c.loop-before.reader, flushed, ap (λ (n : ℕ). n + 1) (sym so_far.2), read, so_far.3)

pub returns-in-Err-TooLong : goal.returns-in-Err-TooLong
returns-in-Err-TooLong g c = λ had held first h.
    let input = g.I.Source.input in
    let output = taken g.O.Sink.output in
    let so_far = c.loop-before.invariant had held first h in
    let flushed =
    carried-flushed c.args.header.now had (input c.loop-before.reader) held (output c.loop-before.writer) (output c.flush_before_wait.new.writer) first c.loop-before.passage so_far.0
    so_far.1 c.in_default.ensures.ok in
    let read = rw c.in-Err-TooLong.field-0-is at c.in-Err-TooLong.ensures.reads in
    (so_far.0, input c.loop-before.reader, flushed, ap (λ (n : ℕ). n + 1) (sym so_far.2), read, so_far.3)

pub returns-in-Err-carry_packet : goal.returns-in-Err-carry_packet
returns-in-Err-carry_packet g c = λ had held first h.
    let input = g.I.Source.input in
    let output = taken g.O.Sink.output in
    let so_far = c.loop-before.invariant had held first h in
    let flushed =
    carried-flushed c.args.header.now had (input c.loop-before.reader) held (output c.loop-before.writer) (output c.flush_before_wait.new.writer) first c.loop-before.passage so_far.0
    so_far.1 c.in_default.ensures.ok in
    let read = rw c.in-Ok-Packet.field-0-is at c.in-Ok-Packet.ensures.reads in
    let from : Record = record_in c.read_record.new.packet c.in-Ok-Packet.head in
    let so = interrupted (Unit {0}) c.args.header.now had (input c.loop-before.reader) (input c.read_record.new.reader) held (output c.flush_before_wait.new.writer) (output c.carry_packet.new.writer) first
    c.loop-before.passage c.carry_packet.new.passage so_far.0 c.in-Err-carry_packet.why (c.loop-before.before + 1) c.loop-before.at flushed (from, read.0, c.in-Err-carry_packet.ensures) (ap (λ (n : ℕ). n + 1) (sym so_far.2)) so_far.3 in
    subst (λ (s : CarryFault). Ends {T = Unit {0}} c.args.header.now had (input c.read_record.new.reader) held (output c.carry_packet.new.writer) first c.carry_packet.new.passage (Err s)) (sym c.send_carry_fault.ensures) so

pub loop-before-preserved : goal.loop-before-preserved
loop-before-preserved g c = λ had held first h.
    let input = g.I.Source.input in
    let output = taken g.O.Sink.output in
    let so_far = c.loop-before.invariant had held first h in
    let flushed =
    carried-flushed c.args.header.now had (input c.loop-before.reader) held (output c.loop-before.writer) (output c.flush_before_wait.new.writer) first c.loop-before.passage so_far.0
    so_far.1 c.in_default.ensures.ok in
    let read = rw c.in-Ok-Packet.field-0-is at c.in-Ok-Packet.ensures.reads in
    let passed = c.in_default-carry_packet.ensures in
    let from : Record = record_in c.read_record.new.packet c.in-Ok-Packet.head in (
      so_far.0 ++ from ∷ [],
      carried-more c.args.header.now had (input c.loop-before.reader) (input c.read_record.new.reader) held (output c.flush_before_wait.new.writer) (output c.carry_packet.new.writer) first
          c.loop-before.passage c.carry_packet.new.passage so_far.0 from passed.0 flushed read.0 passed.1 passed.2 passed.3,
      one-more so_far.0 from ∙ ap (λ (n : ℕ). n + 1) so_far.2,
      next-at c.args.header.now so_far.0 from c.loop-before.at c.in-Ok-Packet.head.kept c.saturating_add-at.result so_far.3 read.1 c.saturating_add-at.ensures,
    )

pub returns : goal.returns
returns g c = λ had held first h.
    let so_far = c.loop-before.invariant had held first h in
    (so_far.0, so_far.1, omega (arith, so_far.2, c.loop-before-test.false, c.loop-before.auto.before-end))
