use Rattle.std.proofs.Common.{◌≡◌, ◌+◌, ◌-◌, take, drop, ap, ◌∙◌, arith}
use Rattle.std.proofs.lemmas.List.{take_rest}
use Rattle.click_control.specs.Commands.{text_command}
use Rattle.click_control.specs.kept.Lines.{end_length}
use Rattle.click_control.proofs.SessionLines.{taken_payload, partial_payload}
use Rattle.click_control.proofs.line.payload.Goals as goal

pub returns-then-bytes-wanted : goal.returns-then-bytes-wanted
returns-then-bytes-wanted c =
    let bytes = c.args.bytes.now in
    let n = c.args.len in
    let begin = n + c.end_len.result in
    let end = c.end_len.ensures ∙ ap end_length (take_rest bytes n) in
    partial_payload bytes n c.args.direction c.args.handler c.args.count begin c.requires.ended c.requires.says (ap (λ k. n + k) end) (omega arith)

pub returns : goal.returns
returns c =
    let bytes = c.args.bytes.now in
    let n = c.args.len in
    let begin = n + c.end_len.result in
    let end = c.end_len.ensures ∙ ap end_length (take_rest bytes n) in
    let count : begin + c.args.count - begin ≡ c.args.count = omega arith in
    let text = c.in_ok-text.ensures ∙ ap (λ k. take k (drop begin bytes)) count in
    rw (c.text_command.ensures ∙ ap (λ t. text_command c.args.direction c.args.handler t) text)
    (taken_payload bytes n c.args.direction c.args.handler c.args.count begin c.requires.ended c.requires.says c.requires.some (ap (λ k. n + k) end) (omega arith))
