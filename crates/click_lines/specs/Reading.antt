-- What is read back from a text: each value that has this text.
use Rattle.std.specs.Prelude.{◌≡◌, ℕ, ◌<◌, ◌≤◌, ◌^◌, ◌==◌, if◌then◌else◌, List, [], ◌∷◌, ◌++◌, length, decimal, Option, Some}
use Rattle.std.specs.List.{AllByRecursion}
use Rattle.click_packet.specs.Packet.{Packet, longest_packet}
use Rattle.click_handlers.specs.Reads.{dotted}
use Rattle.click_lines.specs.Lines.{AreBytes, IsCallOfBytes, IsLineOfBytes, IsPacketOfBytes, call_line, line_text, packet_word, packets_word}
use Rattle.click_router.specs.declared.call.Call.{Call}
use Rattle.click_router.specs.declared.call.Call.TheVariants as call
use Rattle.click_lines.specs.declared.line.Line.{Line}
use Rattle.click_lines.specs.Spelling.{escaped, word}
use Rattle.click_lines.specs.declared.kind.Kind.{Kind}
use Rattle.click_lines.specs.declared.kind.Kind.TheVariants as kind

-- the text before the first such byte; the whole text if there is none
abbrev pub before : ℕ → List ℕ → List ℕ
before c [] = []
before c (b ∷ bs) = if b == c then [] else b ∷ before c bs

-- the text after the first such byte
abbrev pub after : ℕ → List ℕ → List ℕ
after c [] = []
after c (b ∷ bs) = if b == c then bs else after c bs

-- In each of these definitions, a value with this text is what is read.
abbrev pub ReadsBytes : List ℕ → Option (List ℕ) → Type 0
ReadsBytes text read = (least : ℕ) (bytes : List ℕ) → AreBytes bytes → escaped least bytes ≡ text → read ≡ Some bytes

abbrev pub ReadsNumber : List ℕ → Option ℕ → Type 0
ReadsNumber text read = (n : ℕ) → n < 2 ^ 64 → decimal n ≡ text → read ≡ Some n

-- the packet gets the paint and the destination that have this text
abbrev pub ReadsAnnotations : List ℕ → Packet → Packet → Option (Unit {0}) → Type 0
ReadsAnnotations text p q read =
    (paint : ℕ) (destination : List ℕ) → paint < 256 → length destination ≡ 4 → AreBytes destination → decimal paint ++ 58 ∷ dotted destination ≡ text
    → (read ≡ Some tt) × (q ≡ record p { paint = paint; destination = destination })

-- a packet of at most 1,600 bytes, as all packets are
abbrev pub IsPacket : Packet → Type 0
IsPacket p = IsPacketOfBytes p × (length p.bytes ≤ longest_packet)

abbrev pub ReadsPacket : List ℕ → Option Packet → Type 0
ReadsPacket text read = (p : Packet) → IsPacket p → packet_word p ≡ text → read ≡ Some p

abbrev pub ReadsPackets : List ℕ → Option (List Packet) → Type 0
ReadsPackets text read = (ps : List Packet) → AllByRecursion IsPacket ps → packets_word ps ≡ text → read ≡ Some ps

-- the packets of a call have at most 1,600 bytes, as all packets have
abbrev pub HasPacketsThatFit : Call → Type 0
HasPacketsThatFit (call.Arrive device p) = length p.bytes ≤ longest_packet
HasPacketsThatFit (call.Poll device ps) = AllByRecursion (λ p. length p.bytes ≤ longest_packet) ps
HasPacketsThatFit _ = Unit {0}

abbrev pub ReadsCall : List ℕ → Option Call → Type 0
ReadsCall text read = (c : Call) → IsCallOfBytes c → HasPacketsThatFit c → call_line c ≡ text → read ≡ Some c

-- the call has this kind; its first word stands for the bytes `first`, and its last word is `last`
abbrev pub IsLaidOut : Kind → List ℕ → List ℕ → Call → Type 0
IsLaidOut kind.Read first last c = (text : List ℕ) × AreBytes text × (word text ≡ last) × (c ≡ call.Read first text)
IsLaidOut kind.Write first last c = (text : List ℕ) × AreBytes text × (word text ≡ last) × (c ≡ call.Write first text)
IsLaidOut kind.CheckRead first last c = c ≡ call.CheckRead first
IsLaidOut kind.CheckWrite first last c = c ≡ call.CheckWrite first
IsLaidOut kind.Swap first last c = c ≡ call.Swap first
IsLaidOut kind.Arrive first last c = (p : Packet) × IsPacket p × (packet_word p ≡ last) × (c ≡ call.Arrive first p)
IsLaidOut kind.Poll first last c = (ps : List Packet) × AllByRecursion IsPacket ps × (packets_word ps ≡ last) × (c ≡ call.Poll first ps)
IsLaidOut kind.Round first last c = c ≡ call.Round
IsLaidOut kind.Transmit first last c = c ≡ call.Transmit first

-- no line has this text
abbrev pub IsNoLine : List ℕ → Type 0
IsNoLine text = (l : Line) → IsLineOfBytes l → HasPacketsThatFit l.call → line_text l ≡ text → ⊥

abbrev pub ReadsLine : List ℕ → Option Line → Type 0
ReadsLine text read = (l : Line) → IsLineOfBytes l → HasPacketsThatFit l.call → line_text l ≡ text → read ≡ Some l
