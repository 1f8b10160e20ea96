use Rattle.std.proofs.Common.{Option, ℕ, List, subst}
use Rattle.click_prog.specs.Buffers.{Grew}
use Rattle.click_prog.proofs.Flushing.{through-good, through-failed}
use Rattle.click_prog.proofs.pcap.carrying.carry_as.Goals as goal

pub returns-in-Ok-flushed : goal.returns-in-Ok-flushed
returns-in-Ok-flushed g c =
    let input = g.I.Source.input in
    let carried = c.carry_behind-ended.ensures (input c.args.reader.now) c.in-Ok.ensures in
    through-good (Unit {0}) _ g.O.Sink.output c.in-Ok.header (input c.args.reader.now) (input c.carry_behind-ended.new.reader) c.args.sink c.into_sink-sink.result c.new-writer.result c.carry_behind-ended.new.writer
    c.flush-flushed.new.self c.args.passage.now c.carry_behind-ended.new.passage c.carry_behind-ended.result c.new-writer.ensures carried c.in-Ok-flushed.ensures.ok c.in-Ok-flushed.ensures.empty c.into_sink-sink.ensures.same

pub returns : goal.returns
returns g c =
    let input = g.I.Source.input in
    let carried = c.carry_behind-ended.ensures (input c.args.reader.now) c.in-Ok.ensures in
    let grew = subst (λ (old : Option (List ℕ)). Grew old (g.O.Sink.output c.into_sink-sink.result).contents) c.requires.start c.into_sink-sink.ensures.grew in
    through-failed (Unit {0}) _ g.O.Sink.output c.in-Ok.header (input c.args.reader.now) (input c.carry_behind-ended.new.reader) c.args.sink c.into_sink-sink.result c.new-writer.result c.carry_behind-ended.new.writer
    c.flush-flushed.new.self c.args.passage.now c.carry_behind-ended.new.passage c.carry_behind-ended.result c.new-writer.ensures carried c.in-Err-flushed.ensures.err c.into_sink-sink.ensures.same grew
