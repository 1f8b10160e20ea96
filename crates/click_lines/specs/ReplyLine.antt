-- A reply as text, and as a line.
use Rattle.std.specs.Prelude.{ℕ, List, ◌++◌, codes, decimal, Some, None}
use Rattle.click_packet.specs.Packet.{Packet}
use Rattle.click_handlers.specs.Answers.{fault_text}
use Rattle.click_handlers.specs.Reads.{dotted}
use Rattle.click_router.specs.FaultText as config
use Rattle.click_router.specs.declared.call.Reply.{Reply}
use Rattle.click_router.specs.declared.call.Reply.TheVariants as reply
use Rattle.click_router.specs.declared.call.Refusal.TheVariants as refusal
use Rattle.click_lines.specs.Digits.{hex_text}

-- a packet: its bytes, its paint and its destination
abbrev pub sent_text : Packet → List ℕ
sent_text p = codes "sent " ++ hex_text p.bytes ++ codes " " ++ decimal p.paint ++ codes " " ++ dotted p.destination

abbrev pub reply_text : Reply → List ℕ
reply_text (reply.Value bytes) = codes "value " ++ hex_text bytes
reply_text (reply.Refused refusal.NoElement) = codes "refused NoElement"
reply_text (reply.Refused refusal.NoHandler) = codes "refused NoHandler"
reply_text (reply.Refused refusal.WrongWay) = codes "refused WrongWay"
reply_text (reply.Refused (refusal.Handler f)) = codes "refused Handler " ++ fault_text f
reply_text (reply.Refused (refusal.Config f)) = codes "refused Config " ++ config.fault_text f
reply_text reply.Done = codes "done"
reply_text (reply.Entered count) = codes "entered " ++ decimal count
reply_text (reply.Worked count) = codes "worked " ++ decimal count
reply_text (reply.Sent (Some packet)) = sent_text packet
reply_text (reply.Sent None) = codes "sent none"
reply_text reply.NoDevice = codes "nodevice"

-- the text and a line end
abbrev pub reply_line : Reply → List ℕ
reply_line r = reply_text r ++ codes "\n"
