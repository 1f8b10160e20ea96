use Rattle.std.proofs.Common.{◌≡◌, ◌<◌, ◌++◌, length, take, length-take, inr, refl, arith}
use Rattle.click_capture.specs.Captures.{head_bytes}
use Rattle.click_prog.proofs.Pieces.{Took-then, fails-then}
use Rattle.click_prog.proofs.pcap.reading.read_packet.Goals as goal

pub slice_bounds-fill-end : goal.slice_bounds-fill-end
slice_bounds-fill-end g c = omega (arith, c.requires.room, c.requires.kept)

pub slice_bounds-fill-end-2 : goal.slice_bounds-fill-end-2
slice_bounds-fill-end-2 g c = omega (arith, c.requires.room, c.requires.kept, length-take c.args.head.kept c.args.packet.now)

pub returns-in-Err-clause-reads : goal.returns-in-Err-clause-reads
returns-in-Err-clause-reads g c = λ had header took fits. fails-then had _ _ _ took c.in-Err.ensures.err

pub returns-in-Ok-clause-reads : goal.returns-in-Ok-clause-reads
returns-in-Ok-clause-reads g c = λ had header took fits.
    let head = c.args.head in
    let bytes = take c.in-Ok.count c.fill.new.piece in
    let filled = c.in-Ok.ensures.ok in
    let len : length c.fill.new.piece ≡ head.kept = omega (arith, c.fill.ensures.len, c.requires.room, c.requires.kept, length-take head.kept c.args.packet.now) in
    let short : length bytes < head.kept = omega (arith, filled.0, c.if-count-kept.true) in (
      head_bytes header.order head ++ bytes,
      record { took = Took-then had _ _ _ _ took filled.1.took; ended = filled.1.ended (omega arith) },
      inr (head, bytes, refl, fits, short),
    )
