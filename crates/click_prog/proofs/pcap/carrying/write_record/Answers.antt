use Rattle.std.proofs.Common.{ℕ, List, true, false, subst}
use Rattle.click_streams.specs.Peers.{HasWritten, WroteFront}
use Rattle.click_capture.specs.Captures.{whole, head_bytes, head_with}
use Rattle.click_prog.proofs.Outputs.{front-of, front-after}
use Rattle.click_prog.proofs.pcap.carrying.write_record.Goals as goal

pub returns-in-Err-clause-err : goal.returns-in-Err-clause-err
returns-in-Err-clause-err g c =
    let output = g.O.Sink.output in
    let bytes = c.args.packet.now in
    let head = head_bytes c.args.order (head_with (whole c.args.time bytes)) in
    let front =
    subst (λ (l : List ℕ). WroteFront (output c.args.writer.now) (output c.write_all.new.writer) l true) c.record_head_bytes-head.ensures c.in-Err.ensures.err in
    front-of (output c.args.writer.now) (output c.write_all.new.writer) head bytes true front

pub returns-clause-err : goal.returns-clause-err
returns-clause-err g c =
    let output = g.O.Sink.output in
    let bytes = c.args.packet.now in
    let head = head_bytes c.args.order (head_with (whole c.args.time bytes)) in
    let wrote =
    subst (λ (l : List ℕ). HasWritten (output c.args.writer.now) (output c.write_all.new.writer) l false) c.record_head_bytes-head.ensures c.in_default.ensures.ok in
    front-after c.write_all-2.result (output c.args.writer.now) (output c.write_all.new.writer) (output c.write_all-2.new.writer) head bytes wrote c.write_all-2.ensures.err
