use Rattle.std.proofs.Common.{◌≡◌, ◌++◌, ℕ, List, OnOk, length, subst, decimal}
use Rattle.click_control.proofs.ReplyLines.{value_lines}
use Rattle.click_control.proofs.reply.push_value.Goals as goal

pub returns : goal.returns
returns c =
    let bytes = c.args.bytes.now in
    subst (λ (t : List ℕ). OnOk c.push_counted.result (c.push_counted.new.text.items ≡ c.args.text.now.items ++ t)) (value_lines c.args.handler.now (decimal (length bytes)) bytes) (rw (c.as_bytes-digits.ensures.value, c.format.ensures.text) at c.push_counted.ensures)
