use Rattle.std.proofs.Common.{◌≡◌, [], List, length}
use Rattle.click_capture.specs.Captures.{Record}
use Rattle.click_streams.specs.Peers.{Input, Output}
use Rattle.click_prog.specs.Buffers.{taken}
use Rattle.click_prog.specs.Passages.{PassageState}
use Rattle.click_prog.specs.Carrying.{Carried, IsNextAt}
use Rattle.click_prog.proofs.pcap.carrying.carry_each.Given as goal

-- `before` records were carried
abbrev pub invariant-loop-before : goal.invariant-loop-before
invariant-loop-before g l =
    let input = g.I.Source.input in
    let output = taken g.O.Sink.output in
    (had : Input) (held : Output) (first : PassageState) → Carried l.header had (input l.initial.reader) held (output l.initial.writer) first l.initial.passage []
    → (records : List Record) × Carried l.header had (input l.reader) held (output l.writer) first l.passage records × (length records ≡ l.before) × IsNextAt l.header records l.at
