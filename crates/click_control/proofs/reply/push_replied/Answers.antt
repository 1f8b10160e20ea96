use Rattle.std.proofs.Common.{◌≡◌, ◌++◌, ℕ, List, OnOk, subst}
use Rattle.click_control.specs.declared.command.Answer.TheVariants as answer
use Rattle.click_control.specs.kept.ReplyRef.{shown_reply}
use Rattle.click_control.proofs.ReplyLines.{read_alike, done_alike}
use Rattle.click_control.proofs.reply.push_replied.Goals as goal

pub returns-in-Read : goal.returns-in-Read
returns-in-Read c =
    let alike = read_alike c.args.handler.now (answer.Replied (shown_reply c.borrow_stored_reply-reply_ref.result)) (answer.Replied c.args.reply.now) c.borrow_stored_reply-reply_ref.ensures in
    rw c.in-Read.is (subst (λ (t : List ℕ). OnOk c.push_read.result (c.push_read.new.text.items ≡ c.args.text.now.items ++ t)) alike c.push_read.ensures)

pub returns-in-Done : goal.returns-in-Done
returns-in-Done c =
    let alike = done_alike c.in-Done.direction c.args.handler.now (answer.Replied (shown_reply c.borrow_stored_reply-reply_ref.result)) (answer.Replied c.args.reply.now) c.borrow_stored_reply-reply_ref.ensures in
    rw c.in-Done.is (subst (λ (t : List ℕ). OnOk c.push_done.result (c.push_done.new.text.items ≡ c.args.text.now.items ++ t)) alike c.push_done.ensures)
