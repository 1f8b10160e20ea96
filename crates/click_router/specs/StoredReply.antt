-- A reply in the form that a history stores.
use Rattle.std.specs.Prelude.{Some, None}
use Rattle.click_router.specs.declared.call.Refusal.TheVariants as refusal
use Rattle.click_router.specs.declared.call.Reply.{Reply}
use Rattle.click_router.specs.declared.call.Reply.TheVariants as reply
use Rattle.click_router.specs.declared.stored_reply.CompactReply.{CompactReply}
use Rattle.click_router.specs.declared.stored_reply.CompactReply.TheVariants as kept

abbrev pub reply_of : CompactReply → Reply
reply_of (kept.Value value) = reply.Value value
reply_of kept.Done = reply.Done
reply_of kept.NoElement = reply.Refused refusal.NoElement
reply_of kept.NoHandler = reply.Refused refusal.NoHandler
reply_of kept.WrongWay = reply.Refused refusal.WrongWay
reply_of (kept.Handler fault) = reply.Refused (refusal.Handler fault)
reply_of (kept.Config fault) = reply.Refused (refusal.Config fault.value)
reply_of (kept.Entered count) = reply.Entered count
reply_of (kept.Worked count) = reply.Worked count
reply_of (kept.Sent packet) = reply.Sent (Some packet)
reply_of kept.SentNone = reply.Sent None
reply_of kept.NoDevice = reply.NoDevice
