use Rattle.std.proofs.Common.{ℕ, ◌+◌, List, [], ◌∷◌, ◌++◌, false, true, refl, sym, ap, subst, ◌∙◌}
use Rattle.click_streams.specs.Peers.{HasWritten, WroteFront}
use Rattle.click_capture.specs.Captures.{whole, record_bytes}
use Rattle.click_prog.proofs.Outputs.{HasWritten-then}
use Rattle.click_prog.proofs.Passing.{asks-more, one-more, records_at-more}
use Rattle.click_prog.specs.Carrying.{records_at}
use Rattle.click_prog.proofs.pcap.carrying.send_all.Goals as goal

pub returns-in-Err-clause-sends : goal.returns-in-Err-clause-sends
returns-in-Err-clause-sends g c =
    let o = c.args.header.now.order in
    let t = c.args.time in
    let output = g.O.Sink.output in
    let so_far = c.loop-asked.invariant in
    let p = c.send_into.new.packet in
    let asks = c.if-not-send_into.ensures in
    let more = asks-more c.args.passage.now c.loop-asked.passage c.send_into.new.self so_far.0 p so_far.2 so_far.3 (asks.some refl) asks.ends in
    let front =
    subst (λ (bytes : List ℕ). WroteFront (output c.loop-asked.writer) (output c.write_record.new.writer) (record_bytes o (whole t bytes)) true) c.bytes.ensures.value c.in-Err.ensures.err in
    (so_far.0, p, more.0, (output c.loop-asked.writer, so_far.4, front))

pub loop-asked-preserved : goal.loop-asked-preserved
loop-asked-preserved g c =
    let o = c.args.header.now.order in
    let t = c.args.time in
    let output = g.O.Sink.output in
    let so_far = c.loop-asked.invariant in
    let p = c.send_into.new.packet in
    let asks = c.if-not-send_into.ensures in
    let more = asks-more c.args.passage.now c.loop-asked.passage c.send_into.new.self so_far.0 p so_far.2 so_far.3 (asks.some refl) asks.ends in
    let wrote =
    subst (λ (bytes : List ℕ). HasWritten (output c.loop-asked.writer) (output c.write_record.new.writer) (record_bytes o (whole t bytes)) false) c.bytes.ensures.value c.in_default.ensures.ok in (
      so_far.0 ++ p ∷ [],
      one-more so_far.0 p ∙ ap (λ (n : ℕ). n + 1) so_far.1,
      more.0,
      more.1,
      subst (λ (l : List ℕ). HasWritten (output c.args.writer.now) (output c.write_record.new.writer) l false) (sym (records_at-more o t so_far.0 p))
          (HasWritten-then _ _ _ (records_at o t so_far.0) _ false so_far.4 wrote),
    )
