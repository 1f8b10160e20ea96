use Rattle.std.proofs.Common.{◌≡◌, ◌++◌, ℕ, List, OnOk, subst}
use Rattle.click_control.proofs.ReplyLines.{good_write}
use Rattle.click_control.proofs.reply.push_good.Goals as goal

pub returns-in-Write : goal.returns-in-Write
returns-in-Write c =
    rw c.in-Write.is (subst (λ (t : List ℕ). OnOk c.push_around-in-Write.result (c.push_around-in-Write.new.text.items ≡ c.args.text.now.items ++ t)) (good_write c.args.handler.now) c.push_around-in-Write.ensures)
