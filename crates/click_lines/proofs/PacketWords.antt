-- A word determines its packets.
use Rattle.std.proofs.Common.{◌≡◌, ◌⊎◌, ℕ, ◌+◌, ◌/◌, ◌%◌, ◌<◌, ◌^◌, ◌==◌, Bool, true, false, not, ◌&&◌, List, [], ◌∷◌, ◌++◌, map, length, slice_index, All, Ok, zero, suc, refl, sym, ap, ◌∙◌, inl, inr, arith, subst, codes}
use Rattle.std.specs.Prelude.{if◌then◌else◌, decimal}
use Rattle.std.specs.List.{AllByRecursion}
use Rattle.std.specs.Str.{bytes_eq}
use Rattle.std.proofs.lemmas.Bool.{and_parts, and_from, eqb-true}
use Rattle.std.proofs.lemmas.Fmt.{decimal_injective}
use Rattle.std.proofs.lemmas.List.Elements.{All-nil, All-cons}
use Rattle.std.proofs.lemmas.Slice.Eq.{bytes_eq-Decides}
use Rattle.hex.specs.Hex.{IsBytes, decode_of, encode_with, lower_digits}
use Rattle.click_packet.specs.Packet.{Packet}
use Rattle.click_classes.specs.Values.{address}
use Rattle.click_handlers.specs.Reads.{dotted}
use Rattle.click_handlers.proofs.DottedAddresses.{dotted-read}
use Rattle.click_lines.specs.Digits.{IsHex, hex_text}
use Rattle.click_lines.specs.Spelling.{behind}
use Rattle.click_lines.specs.Lines.{AreBytes, IsPacketOfBytes, has_no_annotations, annotations, packet_word, packets_word}
use Rattle.click_lines.proofs.CutTexts.{AllLack, Begins, cut_once, joined_once, lacks, lacks-append, lacks-joined}
use Rattle.click_lines.proofs.DigitReadback.{reads_back}
use Rattle.click_lines.proofs.Words.{lacks-decimal, lacks_at}

pub bytes_at : (bytes : List ℕ) → AreBytes bytes → IsBytes bytes
bytes_at [] h i = omega arith
bytes_at (b ∷ bytes) h zero = h.0
bytes_at (b ∷ bytes) h (suc i) = bytes_at bytes h.1 i

-- ---- hex digits

-- digits determine the bytes
pub hex_same : (text a b : List ℕ) → IsHex text a → IsHex text b → a ≡ b
hex_same text a b h k = elim h [
  | inl p ↦ elim k [
    | inl q ↦ p.1 ∙ sym q.1
    | inr q ↦ let bad : decode_of (codes "-") ≡ Ok b = ap decode_of (sym p.0) ∙ q.1 in absurd cc
  ]
  | inr p ↦ elim k [
    | inl q ↦ let bad : decode_of (codes "-") ≡ Ok a = ap decode_of (sym q.0) ∙ p.1 in absurd cc
    | inr q ↦ let same : Ok a ≡ Ok b = sym p.1 ∙ q.1 in cc
  ]
]

pub hex_once : (a b : List ℕ) → AreBytes a → AreBytes b → hex_text a ≡ hex_text b → a ≡ b
hex_once a b h k e =
    hex_same (hex_text a) a b (reads_back a (bytes_at a h)) (subst (λ (t : List ℕ). IsHex t b) (sym e) (reads_back b (bytes_at b k)))

hex_some : (bytes : List ℕ) → AreBytes bytes → hex_text bytes ≡ [] → ⊥
hex_some bytes h e = elim (reads_back bytes (bytes_at bytes h)) [
  | inl p ↦ let bad : codes "-" ≡ [] = sym p.0 ∙ e in cc
  | inr p ↦ p.0 e
]

lacks-encode : (c : ℕ) (bytes : List ℕ) → AreBytes bytes → lacks c lower_digits ≡ true → lacks c (encode_with lower_digits bytes) ≡ true
unfolding encode_with
lacks-encode c [] h digits = refl
lacks-encode c (b ∷ bytes) h digits =
    let small : b < 256 = h.0 in
    let high = slice_index lower_digits (b / 16) in
    let low = slice_index lower_digits (b % 16) in
    let first : not (high == c) ≡ true = lacks_at c lower_digits (b / 16) digits (let q : b / 16 < 16 = omega (arith, small) in q) in
    let second : not (low == c) ≡ true = lacks_at c lower_digits (b % 16) digits (let q : b % 16 < 16 = omega arith in q) in
    let more = lacks-encode c bytes h.1 digits in
    let behind_high = and_from (not (low == c)) (lacks c (encode_with lower_digits bytes)) second more in
    and_from (not (high == c)) (not (low == c) && lacks c (encode_with lower_digits bytes)) first behind_high

pub lacks-hex : (c : ℕ) (bytes : List ℕ) → AreBytes bytes → lacks c lower_digits ≡ true → lacks c (codes "-") ≡ true → lacks c (hex_text bytes) ≡ true
lacks-hex c [] h digits hyphen = hyphen
lacks-hex c (b ∷ bytes) h digits hyphen = lacks-encode c (b ∷ bytes) h digits

-- ---- addresses

all_bytes : (a : List ℕ) → AreBytes a → All (λ b. b < 256) a
all_bytes [] h = All-nil (λ b. b < 256)
all_bytes (x ∷ xs) h = All-cons (λ b. b < 256) x xs h.0 (all_bytes xs h.1)

pub reads : (a : List ℕ) → length a ≡ 4 → AreBytes a → address (dotted a) ≡ Ok a
reads a four h = dotted-read a four (all_bytes a h)

dotted_once : (a b : List ℕ) → length a ≡ 4 → length b ≡ 4 → AreBytes a → AreBytes b → dotted a ≡ dotted b → a ≡ b
dotted_once a b four four' h k e =
    let same : Ok a ≡ Ok b = sym (reads a four h) ∙ ap address e ∙ reads b four' k in cc

lacks-dotted : (c : ℕ) (a : List ℕ) → AreBytes a → ((d : ℕ) → d < 10 → 48 + d ≡ c → ⊥) → lacks c (codes ".") ≡ true → lacks c (dotted a) ≡ true
lacks-dotted c a h apart dot =
    let number = λ (i : ℕ). lacks-decimal c (slice_index a i) apart (let s : slice_index a i < 256 = bytes_at a h i in omega (arith, s)) in
    let d0 = decimal (slice_index a 0) in
    let d1 = decimal (slice_index a 1) in
    let d2 = decimal (slice_index a 2) in
    let d3 = decimal (slice_index a 3) in
    let l1 = lacks-append c d0 (codes ".") (number 0) dot in
    let l2 = lacks-append c (d0 ++ codes ".") d1 l1 (number 1) in
    let l3 = lacks-append c (d0 ++ codes "." ++ d1) (codes ".") l2 dot in
    let l4 = lacks-append c (d0 ++ codes "." ++ d1 ++ codes ".") d2 l3 (number 2) in
    let l5 = lacks-append c (d0 ++ codes "." ++ d1 ++ codes "." ++ d2) (codes ".") l4 dot in
    lacks-append c (d0 ++ codes "." ++ d1 ++ codes "." ++ d2 ++ codes ".") d3 l5 (number 3)

-- ---- paint and destination

pub by_test : (t : Bool) (x y : List ℕ) → ((t ≡ true) × ((if t then x else y) ≡ x)) ⊎ ((t ≡ false) × ((if t then x else y) ≡ y))
by_test true x y = inl (refl, refl)
by_test false x y = inr (refl, refl)

abbrev pub marked : Packet → List ℕ
marked p = 58 ∷ decimal p.paint ++ 58 ∷ dotted p.destination

begins-annotations : (p : Packet) → Begins 58 (annotations p)
begins-annotations p = elim (by_test (has_no_annotations p) [] (marked p)) [
  | inl e ↦ rw e.1 tt
  | inr e ↦ rw e.1 refl
]

pub apart_58 : (d : ℕ) → d < 10 → 48 + d ≡ 58 → ⊥
apart_58 d l e = omega (arith, l, e)

pub zeros : (p : Packet) → has_no_annotations p ≡ true → (p.paint ≡ 0) × (p.destination ≡ 0 ∷ 0 ∷ 0 ∷ 0 ∷ [])
zeros p e =
    let parts = and_parts (p.paint == 0) (bytes_eq p.destination (0 ∷ 0 ∷ 0 ∷ 0 ∷ [])) e in
    (eqb-true p.paint 0 parts.0, (bytes_eq-Decides p.destination (0 ∷ 0 ∷ 0 ∷ 0 ∷ [])).0 parts.1)

marked_once : (p q : Packet) → IsPacketOfBytes p → IsPacketOfBytes q → marked p ≡ marked q → (p.paint ≡ q.paint) × (p.destination ≡ q.destination)
marked_once p q h k e =
    let whole : 58 ∷ (decimal p.paint ++ 58 ∷ dotted p.destination) ≡ 58 ∷ (decimal q.paint ++ 58 ∷ dotted q.destination) = e in
    let rest : decimal p.paint ++ 58 ∷ dotted p.destination ≡ decimal q.paint ++ 58 ∷ dotted q.destination = cc in
    let hp : p.paint < 2 ^ 64 = (let s : p.paint < 256 = h.1 in omega (arith, s)) in
    let kp : q.paint < 2 ^ 64 = (let s : q.paint < 256 = k.1 in omega (arith, s)) in
    let one = cut_once 58 (decimal p.paint) (decimal q.paint) (58 ∷ dotted p.destination) (58 ∷ dotted q.destination)
    (lacks-decimal 58 p.paint apart_58 hp) (lacks-decimal 58 q.paint apart_58 kp) refl refl rest in
    let behind_it : 58 ∷ dotted p.destination ≡ 58 ∷ dotted q.destination = one.1 in
    let texts : dotted p.destination ≡ dotted q.destination = cc in (
      decimal_injective p.paint q.paint hp kp one.0,
      dotted_once p.destination q.destination h.2 k.2 h.3 k.3 texts,
    )

marks_once : (p q : Packet) → IsPacketOfBytes p → IsPacketOfBytes q → annotations p ≡ annotations q → (p.paint ≡ q.paint) × (p.destination ≡ q.destination)
marks_once p q h k e = elim (by_test (has_no_annotations p) [] (marked p)) [
  | inl x ↦ elim (by_test (has_no_annotations q) [] (marked q)) [
    | inl y ↦
        let zp = zeros p x.0 in
        let zq = zeros q y.0 in
        (zp.0 ∙ sym zq.0, zp.1 ∙ sym zq.1)
    | inr y ↦ let bad : [] ≡ marked q = sym x.1 ∙ e ∙ y.1 in absurd cc
  ]
  | inr x ↦ elim (by_test (has_no_annotations q) [] (marked q)) [
    | inl y ↦ let bad : marked p ≡ [] = sym x.1 ∙ e ∙ y.1 in absurd cc
    | inr y ↦ marked_once p q h k (sym x.1 ∙ e ∙ y.1)
  ]
]

-- ---- packets

pub equal : (p q : Packet) → p.bytes ≡ q.bytes → p.paint ≡ q.paint → p.destination ≡ q.destination → p ≡ q
equal p q bytes paint destination =
    ap (λ (x : List ℕ). record p { bytes = x }) bytes ∙ ap (λ (x : ℕ). record p { bytes = q.bytes; paint = x }) paint
    ∙ ap (λ (x : List ℕ). record q { destination = x }) destination

pub packet_once : (p q : Packet) → IsPacketOfBytes p → IsPacketOfBytes q → packet_word p ≡ packet_word q → p ≡ q
packet_once p q h k e =
    let one = cut_once 58 (hex_text p.bytes) (hex_text q.bytes) (annotations p) (annotations q) (lacks-hex 58 p.bytes h.0 refl refl) (lacks-hex 58 q.bytes k.0 refl refl)
    (begins-annotations p) (begins-annotations q) e in
    let same = marks_once p q h k one.1 in
    let bytes : p.bytes ≡ q.bytes = hex_once p.bytes q.bytes h.0 k.0 one.0 in
    let paint : p.paint ≡ q.paint = same.0 in
    let destination : p.destination ≡ q.destination = same.1 in
    equal p q bytes paint destination

pub lacks-packet : (c : ℕ) (p : Packet) → IsPacketOfBytes p → lacks c lower_digits ≡ true → lacks c (codes "-.:") ≡ true → ((d : ℕ) → d < 10 → 48 + d ≡ c → ⊥) → lacks c (packet_word p) ≡ true
lacks-packet c p h digits others apart =
    let hyphen : not (45 == c) ≡ true = (and_parts (not (45 == c)) (lacks c (codes ".:")) others).0 in
    let dots = (and_parts (not (45 == c)) (lacks c (codes ".:")) others).1 in
    let dot : not (46 == c) ≡ true = (and_parts (not (46 == c)) (lacks c (codes ":")) dots).0 in
    let colon : not (58 == c) ≡ true = (and_parts (not (58 == c)) true (and_parts (not (46 == c)) (lacks c (codes ":")) dots).1).0 in
    let paint : p.paint < 2 ^ 64 = (let s : p.paint < 256 = h.1 in omega (arith, s)) in
    let number = lacks-decimal c p.paint apart paint in
    let after = lacks-dotted c p.destination h.3 apart (and_from (not (46 == c)) true dot refl) in
    let behind_paint = and_from (not (58 == c)) (lacks c (dotted p.destination)) colon after in
    let texts = lacks-append c (decimal p.paint) (58 ∷ dotted p.destination) number behind_paint in
    let all : lacks c (marked p) ≡ true = and_from (not (58 == c)) (lacks c (decimal p.paint ++ 58 ∷ dotted p.destination)) colon texts in
    lacks-append c (hex_text p.bytes) (annotations p) (lacks-hex c p.bytes h.0 digits (and_from (not (45 == c)) true hyphen refl)) (elim (by_test (has_no_annotations p) [] (marked p)) [
      | inl x ↦ rw x.1 refl
      | inr x ↦ rw x.1 all
    ])

pub all_lack : (c : ℕ) (ps : List Packet) → AllByRecursion IsPacketOfBytes ps → lacks c lower_digits ≡ true → lacks c (codes "-.:") ≡ true → ((d : ℕ) → d < 10 → 48 + d ≡ c → ⊥)
    → AllLack c (map packet_word ps)
all_lack c [] h digits others apart = tt
all_lack c (p ∷ ps) h digits others apart = (lacks-packet c p h.0 digits others apart, all_lack c ps h.1 digits others apart)

maps_once : (ps qs : List Packet) → AllByRecursion IsPacketOfBytes ps → AllByRecursion IsPacketOfBytes qs → map packet_word ps ≡ map packet_word qs → ps ≡ qs
maps_once [] [] h k e = refl
maps_once [] (q ∷ qs) h k e = absurd (let bad : [] ≡ packet_word q ∷ map packet_word qs = e in cc)
maps_once (p ∷ ps) [] h k e = absurd (let bad : packet_word p ∷ map packet_word ps ≡ [] = e in cc)
maps_once (p ∷ ps) (q ∷ qs) h k e =
    let whole : packet_word p ∷ map packet_word ps ≡ packet_word q ∷ map packet_word qs = e in
    let words : packet_word p ≡ packet_word q = cc in
    let rest : map packet_word ps ≡ map packet_word qs = cc in
    let first : p ≡ q = packet_once p q h.0 k.0 words in
    let more : ps ≡ qs = maps_once ps qs h.1 k.1 rest in
    cc

front_nil : (x y : List ℕ) → x ++ y ≡ [] → x ≡ []
front_nil [] y e = refl
front_nil (b ∷ x) y e = absurd (let bad : b ∷ (x ++ y) ≡ [] = e in cc)

pub word_some : (p : Packet) (rest : List ℕ) → IsPacketOfBytes p → packet_word p ++ rest ≡ [] → ⊥
word_some p rest h e = hex_some p.bytes h.0 (front_nil (hex_text p.bytes) (annotations p) (front_nil (packet_word p) rest e))

pub apart_44 : (d : ℕ) → d < 10 → 48 + d ≡ 44 → ⊥
apart_44 d l e = omega (arith, l, e)

pub packets_once : (ps qs : List Packet) → AllByRecursion IsPacketOfBytes ps → AllByRecursion IsPacketOfBytes qs → packets_word ps ≡ packets_word qs → ps ≡ qs
packets_once [] [] h k e = refl
packets_once [] (q ∷ qs) h k e = absurd (word_some q (behind 44 (map packet_word qs)) k.0 (sym e))
packets_once (p ∷ ps) [] h k e = absurd (word_some p (behind 44 (map packet_word ps)) h.0 e)
packets_once (p ∷ ps) (q ∷ qs) h k e =
    let one = joined_once 44 (packet_word p) (packet_word q) (map packet_word ps) (map packet_word qs) (all_lack 44 (p ∷ ps) h refl refl apart_44)
    (all_lack 44 (q ∷ qs) k refl refl apart_44) e in
    let first : p ≡ q = packet_once p q h.0 k.0 one.0 in
    let more : ps ≡ qs = maps_once ps qs h.1 k.1 one.1 in
    cc

pub lacks-packets : (c : ℕ) (ps : List Packet) → AllByRecursion IsPacketOfBytes ps → lacks c lower_digits ≡ true → lacks c (codes "-.:") ≡ true → not (44 == c) ≡ true
    → ((d : ℕ) → d < 10 → 48 + d ≡ c → ⊥) → lacks c (packets_word ps) ≡ true
lacks-packets c ps h digits others comma apart = lacks-joined c 44 (map packet_word ps) comma (all_lack c ps h digits others apart)
