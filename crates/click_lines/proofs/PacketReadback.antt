-- Packets with commas between them read back.
use Rattle.std.proofs.Common.{◌≡◌, ◌⊎◌, true, Some, Option, inl, inr, subst, ℕ, ◌<◌, List, [], ◌∷◌, ◌++◌, map, length, refl, sym, ap, ◌∙◌, arith}
use Rattle.std.specs.List.{AllByRecursion}
use Rattle.std.proofs.lemmas.List.{append-nil, length-append}
use Rattle.click_packet.specs.Packet.{Packet}
use Rattle.std.specs.Prelude.{decimal}
use Rattle.click_handlers.specs.Reads.{dotted}
use Rattle.click_lines.specs.Digits.{IsHex, IsNoPacket, IsPacketOf, SpellsNone, hex_text}
use Rattle.click_lines.specs.declared.digits.HexFault.{HexFault}
use Rattle.click_lines.specs.declared.digits.HexFault.TheVariants.{NoDigit, NoDigits, NoMemory, OddDigits, TooLong}
use Rattle.click_lines.specs.Lines.{IsPacketOfBytes, has_no_annotations, packet_word, packets_word}
use Rattle.click_lines.specs.Reading.{IsPacket, ReadsAnnotations, before, after}
use Rattle.click_lines.specs.Spelling.{behind}
use Rattle.click_lines.proofs.CutParts.{after-at, after-lacks, before-at, before-lacks, first_part}
use Rattle.click_lines.proofs.PacketWords.{apart_44, by_test, bytes_at, equal, hex_same, lacks-hex, lacks-packet, marked, word_some, zeros}
use Rattle.click_lines.proofs.DigitReadback.{reads_back}

-- For any packets with this word, those that were read are a prefix, and the rest of the word is
-- that of the other packets.
abbrev pub Left : List ℕ → List Packet → List ℕ → Type 0
Left word so_far rest = (ps : List Packet) → AllByRecursion IsPacket ps → packets_word ps ≡ word
    → (more : List Packet) × AllByRecursion IsPacket more × (ps ≡ so_far ++ more) × (packets_word more ≡ rest)

nothing : (rest : List ℕ) → [] ≡ rest → 0 < length rest → ⊥
nothing [] e some = omega (arith, some)
nothing (b ∷ rest) e some = absurd cc

-- the remaining word begins with the word of a packet
pub next_packet : (more : List Packet) (rest : List ℕ) → AllByRecursion IsPacket more → packets_word more ≡ rest → 0 < length rest
    → (p : Packet) × (ps : List Packet) × (more ≡ p ∷ ps) × IsPacket p × AllByRecursion IsPacket ps × (packet_word p ≡ before 44 rest) × (packets_word ps ≡ after 44 rest)
next_packet [] rest h e some = absurd (nothing rest e some)
next_packet (p ∷ ps) rest h e some =
    let cut = first_part 44 (packet_word p) (map packet_word ps) (lacks-packet 44 p h.0.0 refl refl apart_44) in
    (p, ps, refl, h.0, h.1, sym cut.0 ∙ ap (before 44) e, sym cut.1 ∙ ap (after 44) e)

ended : (rest : List ℕ) → length rest ≡ 0 → rest ≡ []
ended [] e = refl
ended (b ∷ rest) e = absurd (omega (arith, e))

none_left : (more : List Packet) (rest : List ℕ) → AllByRecursion IsPacket more → packets_word more ≡ rest → length rest ≡ 0 → more ≡ []
none_left [] rest h e end = refl
none_left (p ∷ ps) rest h e end = absurd (word_some p (behind 44 (map packet_word ps)) h.0.0 (e ∙ ended rest end))

pub all_read : (ps more so_far : List Packet) (rest : List ℕ) → AllByRecursion IsPacket more → ps ≡ so_far ++ more → packets_word more ≡ rest → length rest ≡ 0 → ps ≡ so_far
all_read ps more so_far rest h is e end = is ∙ ap (λ (t : List Packet). so_far ++ t) (none_left more rest h e end) ∙ append-nil so_far

-- ---- a single packet

abbrev CutOff : Packet → List ℕ → Type 0
CutOff p rest = ((has_no_annotations p ≡ true) × (rest ≡ [])) ⊎ (rest ≡ decimal p.paint ++ 58 ∷ dotted p.destination)

-- the word of a packet is cut after its digits
word_cut : (p : Packet) → IsPacketOfBytes p → (before 58 (packet_word p) ≡ hex_text p.bytes) × CutOff p (after 58 (packet_word p))
word_cut p h =
    let digits = hex_text p.bytes in
    let none = lacks-hex 58 p.bytes h.0 refl refl in
    elim (by_test (has_no_annotations p) [] (marked p)) [
      | inl x ↦
          let word : packet_word p ≡ digits = ap (λ (t : List ℕ). digits ++ t) x.1 ∙ append-nil digits in
          (ap (before 58) word ∙ before-lacks 58 digits none, inl (x.0, ap (after 58) word ∙ after-lacks 58 digits none))
      | inr x ↦
          let rest = decimal p.paint ++ 58 ∷ dotted p.destination in
          let word : packet_word p ≡ digits ++ 58 ∷ rest = ap (λ (t : List ℕ). digits ++ t) x.1 in
          (ap (before 58) word ∙ before-at 58 digits rest none, inr (ap (after 58) word ∙ after-at 58 digits rest none))
    ]

pub digits_in : (p : Packet) (word : List ℕ) → IsPacketOfBytes p → packet_word p ≡ word → IsHex (before 58 word) p.bytes
digits_in p word h e =
    subst (λ (t : List ℕ). IsHex t p.bytes) (sym (word_cut p h).0 ∙ ap (before 58) e) (reads_back p.bytes (bytes_at p.bytes h.0))

-- the digits of a packet are those of some packet
pub spells_some : (p : Packet) (word : List ℕ) → IsPacket p → packet_word p ≡ word → SpellsNone (before 58 word) → ⊥
spells_some p word h e none = none p.bytes h.1 (digits_in p word h.0 e)

cut_off : (p : Packet) (word : List ℕ) → IsPacketOfBytes p → packet_word p ≡ word → CutOff p (after 58 word)
cut_off p word h e = subst (λ (t : List ℕ). CutOff p (after 58 t)) e (word_cut p h).1

some_marks : (paint : ℕ) (rest : List ℕ) → length (decimal paint ++ 58 ∷ rest) ≡ 0 → ⊥
some_marks paint rest none = let long = length-append (decimal paint) (58 ∷ rest) in omega (arith, long, none)

-- the text after a colon, if there is one, is the paint and the destination of the packet
pub marks_read : (p q r : Packet) (word : List ℕ) (read : Option (Unit {0})) → IsPacketOfBytes p → packet_word p ≡ word → 0 < length (after 58 word) → ReadsAnnotations (after 58 word) q r read
    → (read ≡ Some tt) × (r ≡ record q { paint = p.paint; destination = p.destination })
marks_read p q r word read h e some reads = elim (cut_off p word h e) [
  | inl x ↦ absurd (let none : length (after 58 word) ≡ 0 = rw x.1 refl in omega (arith, none, some))
  | inr x ↦ reads p.paint p.destination h.1 h.2 h.3 (sym x)
]

pub marked_back : (p q r : Packet) (word : List ℕ) → IsPacketOfBytes p → packet_word p ≡ word → IsPacketOf (before 58 word) q → r ≡ record q { paint = p.paint; destination = p.destination } → r ≡ p
marked_back p q r word h e is marked =
    let bytes : q.bytes ≡ p.bytes = hex_same (before 58 word) q.bytes p.bytes is.0 (digits_in p word h e) in
    marked ∙ ap (λ (x : List ℕ). record p { bytes = x }) bytes

pub plain_back : (p q : Packet) (word : List ℕ) → IsPacketOfBytes p → packet_word p ≡ word → IsPacketOf (before 58 word) q → length (after 58 word) ≡ 0 → q ≡ p
plain_back p q word h e is none = elim (cut_off p word h e) [
  | inl x ↦
      let z = zeros p x.0 in
      equal q p (hex_same (before 58 word) q.bytes p.bytes is.0 (digits_in p word h e)) (is.1 ∙ sym z.0) (is.2 ∙ sym z.1)
  | inr x ↦ absurd (some_marks p.paint (dotted p.destination) (let all : length (decimal p.paint ++ 58 ∷ dotted p.destination) ≡ 0 = rw (← x) none in all))
]

pub none_spelled : (digits : List ℕ) (fault : HexFault) → IsNoPacket digits fault → (fault ≡ NoMemory → ⊥) → SpellsNone digits
none_spelled digits NoMemory h other = absurd (other refl)
none_spelled digits NoDigits h other = h.0
none_spelled digits OddDigits h other = h.0
none_spelled digits NoDigit h other = h.0
none_spelled digits TooLong h other = h.0
