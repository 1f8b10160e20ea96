-- The part of a reply that a session shows.
use Rattle.click_router.specs.declared.call.Refusal.{Refusal}
use Rattle.click_router.specs.declared.call.Refusal.TheVariants as refusal
use Rattle.click_router.specs.declared.call.Reply.{Reply}
use Rattle.click_router.specs.declared.call.Reply.TheVariants as reply
use Rattle.click_control.specs.declared.reply_ref.RefusalRef.{RefusalRef}
use Rattle.click_control.specs.declared.reply_ref.RefusalRef.TheVariants as cause
use Rattle.click_control.specs.declared.reply_ref.ReplyRef.{ReplyRef}
use Rattle.click_control.specs.declared.reply_ref.ReplyRef.TheVariants as reply_ref

abbrev pub refusal_of : RefusalRef → Refusal
refusal_of cause.NoElement = refusal.NoElement
refusal_of cause.NoHandler = refusal.NoHandler
refusal_of cause.WrongWay = refusal.WrongWay
refusal_of (cause.Handler f) = refusal.Handler f
refusal_of (cause.Config f) = refusal.Config f.now

-- A reply of which this is shown. Of the replies that no command gets nothing is shown, so
-- `NoDevice` stands for all of them.
abbrev pub shown_reply : ReplyRef → Reply
shown_reply (reply_ref.Value bytes) = reply.Value bytes.now
shown_reply reply_ref.Done = reply.Done
shown_reply (reply_ref.Refused c) = reply.Refused (refusal_of c)
shown_reply reply_ref.Nothing = reply.NoDevice
