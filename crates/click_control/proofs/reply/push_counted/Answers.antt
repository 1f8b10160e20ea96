use Rattle.std.proofs.Common.{◌≡◌, ◌++◌, ℕ, List, OnOk, codes, subst}
use Rattle.click_control.proofs.ReplyLines.{joined}
use Rattle.click_control.proofs.reply.push_counted.Goals as goal

pub returns : goal.returns
returns c =
    let rest : List ℕ = c.args.digits.now ++ (codes "\r\n" ++ c.args.bytes.now) in
    let lines = joined c.args.text.now.items c.reserve.new.self.items (codes "200 Read handler '") c.args.handler.now (codes "' OK\r\nDATA ") c.push_around.new.text.items rest
    c.in_ok-reserve.ensures.items c.in_ok-push_around.ensures in
    subst (λ (t : List ℕ). OnOk c.push_around-2.result (c.push_around-2.new.text.items ≡ t)) lines c.push_around-2.ensures
