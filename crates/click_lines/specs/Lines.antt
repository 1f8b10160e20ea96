-- Calls and their replies as lines.
use Rattle.std.specs.Prelude.{◌≡◌, ℕ, ◌<◌, ◌^◌, ◌==◌, ◌&&◌, if◌then◌else◌, Bool, List, [], ◌∷◌, ◌++◌, length, map, codes, decimal}
use Rattle.std.specs.List.{AllByRecursion}
use Rattle.std.specs.Str.{bytes_eq}
use Rattle.click_packet.specs.Packet.{Packet}
use Rattle.click_handlers.specs.Reads.{dotted}
use Rattle.click_router.specs.declared.call.Call.{Call}
use Rattle.click_router.specs.declared.call.Call.TheVariants as call
use Rattle.click_router.specs.declared.call.Reply.{Reply}
use Rattle.click_lines.specs.Digits.{hex_text}
use Rattle.click_lines.specs.ReplyLine.{reply_text}
use Rattle.click_lines.specs.Spelling.{word, words, joined}
use Rattle.click_lines.specs.declared.line.Line.{Line}

-- the packet has paint 0 and destination 0.0.0.0, as a packet has when it enters
abbrev pub has_no_annotations : Packet → Bool
has_no_annotations p = p.paint == 0 && bytes_eq p.destination (0 ∷ 0 ∷ 0 ∷ 0 ∷ [])

-- the paint and the destination, each after a colon, if they are not those of a packet that enters
abbrev pub annotations : Packet → List ℕ
annotations p = if has_no_annotations p then [] else 58 ∷ decimal p.paint ++ 58 ∷ dotted p.destination

abbrev pub packet_word : Packet → List ℕ
packet_word p = hex_text p.bytes ++ annotations p

-- packets with commas between them
abbrev pub packets_word : List Packet → List ℕ
packets_word ps = joined 44 (map packet_word ps)

-- the words of a call
abbrev pub call_words : Call → List (List ℕ)
call_words (call.Read name text) = codes "read" ∷ word name ∷ word text ∷ []
call_words (call.Write name text) = codes "write" ∷ word name ∷ word text ∷ []
call_words (call.CheckRead name) = codes "checkread" ∷ word name ∷ []
call_words (call.CheckWrite name) = codes "checkwrite" ∷ word name ∷ []
call_words (call.Swap text) = codes "swap" ∷ word text ∷ []
call_words (call.Arrive device p) = codes "arrive" ∷ word device ∷ packet_word p ∷ []
call_words (call.Poll device ps) = codes "poll" ∷ word device ∷ packets_word ps ∷ []
call_words call.Round = codes "round" ∷ []
call_words (call.Transmit device) = codes "transmit" ∷ word device ∷ []

abbrev pub call_line : Call → List ℕ
call_line c = joined 32 (call_words c)

-- A seat number, its call and the text of the reply, with tabs between them. The line end is not
-- part of it.
abbrev pub line_text : Line → List ℕ
line_text l = joined 9 (decimal l.seat ∷ call_line l.call ∷ words l.reply ∷ [])

-- the line of a call that a seat made, and of its reply
abbrev pub entry_line : ℕ → Call → Reply → List ℕ
entry_line seat call reply = line_text (record { seat = seat; call = call; reply = reply_text reply })

-- ---- the ranges of the numbers and bytes in a line

abbrev pub AreBytes : List ℕ → Type 0
AreBytes bytes = AllByRecursion (λ b. b < 256) bytes

abbrev pub IsPacketOfBytes : Packet → Type 0
IsPacketOfBytes p = AreBytes p.bytes × (p.paint < 256) × (length p.destination ≡ 4) × AreBytes p.destination

abbrev pub IsCallOfBytes : Call → Type 0
IsCallOfBytes (call.Read name text) = AreBytes name × AreBytes text
IsCallOfBytes (call.Write name text) = AreBytes name × AreBytes text
IsCallOfBytes (call.CheckRead name) = AreBytes name
IsCallOfBytes (call.CheckWrite name) = AreBytes name
IsCallOfBytes (call.Swap text) = AreBytes text
IsCallOfBytes (call.Arrive device p) = AreBytes device × IsPacketOfBytes p
IsCallOfBytes (call.Poll device ps) = AreBytes device × AllByRecursion IsPacketOfBytes ps
IsCallOfBytes call.Round = Unit {0}
IsCallOfBytes (call.Transmit device) = AreBytes device

abbrev pub IsLineOfBytes : Line → Type 0
IsLineOfBytes l = (l.seat < 2 ^ 64) × IsCallOfBytes l.call × AreBytes l.reply
