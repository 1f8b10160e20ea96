use Rattle.std.proofs.Common.{◌≡◌, refl, arith}
use Rattle.std.proofs.lemmas.Grind.{common_steps}
use Rattle.click_capture.specs.Captures.{head_bytes}
use Rattle.click_capture.specs.declared.record.RecordHeader.{RecordHeader}
use Rattle.click_capture.proofs.record.record_header_of.Goals as goal

pub returns-then-kept-most-clause-fault : goal.returns-then-kept-most-clause-fault
returns-then-kept-most-clause-fault c =
    let head : RecordHeader = record {
      time = record { seconds = c.split_u32-seconds.result.0; fraction = c.split_u32-fraction.result.0 };
      kept = c.split_u32-kept.result.0;
      wire = c.split_u32-wire.result.0;
    } in
    let parts : c.args.bytes.now ≡ head_bytes c.args.header.now.order head = grind (arith, common_steps) in
    (head, parts, refl, c.longest-most.ensures.value, omega arith)
