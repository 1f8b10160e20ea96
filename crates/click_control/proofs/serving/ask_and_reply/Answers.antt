use Rattle.std.proofs.Common.{sym, ap, subst, Option}
use Rattle.click_router.specs.declared.call.Call.{Call}
use Rattle.click_control.specs.Serving.{Answered, answer_of}
use Rattle.click_control.specs.kept.Topics.{topic_text}
use Rattle.click_control.specs.declared.command.Answer.TheVariants as answer
use Rattle.click_control.proofs.serving.ask_and_reply.Goals as goal

pub returns-in-Ok : goal.returns-in-Ok
returns-in-Ok g c =
    let told = answer.Replied c.in-Ok.answer in
    let asked = subst (λ (k : Option Call). Answered g.P.Port.asks c.args.port.now k told c.ask_stored-recorded.new.self) (sym c.in-Some.is)
    (c.ask_stored-recorded.result, c.ask_stored-recorded.ensures, sym (ap answer_of c.in-Ok.is)) in
    (told, asked, c.reply-in-Ok.ensures (topic_text c.args.topic.now c.args.buffers.now.handler.items told) (rw c.as_slice-handler.ensures.value at (rw c.clear.ensures.items at c.push_replied-added.ensures)))

pub returns : goal.returns
returns g c =
    let told = answer.Failed c.in-Err.fault in
    let asked = subst (λ (k : Option Call). Answered g.P.Port.asks c.args.port.now k told c.ask_stored-recorded.new.self) (sym c.in-Some.is)
    (c.ask_stored-recorded.result, c.ask_stored-recorded.ensures, sym (ap answer_of c.in-Err.is)) in
    let handler = c.args.buffers.now.handler.items in
    (told, asked, c.reply-in-Err.ensures (topic_text c.args.topic.now handler told) (rw c.clear.ensures.items at (c.push_failed_topic-added.ensures handler)))
