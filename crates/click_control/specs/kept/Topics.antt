-- The text that answers a command, from what a session stores of the command for its reply.
use Rattle.std.specs.Prelude.{ℕ, List}
use Rattle.click_control.specs.declared.command.Answer.{Answer}
use Rattle.click_control.specs.declared.reply.ReplyContext.{ReplyContext}
use Rattle.click_control.specs.declared.reply.ReplyContext.TheVariants as topic
use Rattle.click_control.specs.ReplyText.{read_text, done_text, text_of}

-- the text that answers a command about this handler
abbrev pub topic_text : ReplyContext → List ℕ → Answer → List ℕ
topic_text topic.Read handler a = read_text handler a
topic_text (topic.Done w) handler a = done_text w handler a
topic_text (topic.Uncalled c) handler a = text_of c a
