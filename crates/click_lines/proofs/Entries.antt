-- A line determines the seat, the call and the text of the reply.
use Rattle.std.proofs.Common.{◌≡◌, ℕ, ◌+◌, ◌*◌, ◌<◌, ◌==◌, true, false, List, [], ◌∷◌, length, slice_index, refl, sym, ap, ◌∙◌, arith, subst, codes}
use Rattle.std.specs.Prelude.{decimal}
use Rattle.std.proofs.lemmas.Fmt.{decimal_injective}
use Rattle.click_packet.specs.Packet.{Packet}
use Rattle.click_router.specs.declared.call.Call.{Call}
use Rattle.click_router.specs.declared.call.Call.TheVariants as call
use Rattle.click_lines.specs.Spelling.{joined, word, words}
use Rattle.click_lines.specs.Lines.{AreBytes, IsCallOfBytes, IsLineOfBytes, call_line, call_words, line_text, packet_word, packets_word}
use Rattle.click_lines.specs.declared.line.Line.{Line}
use Rattle.click_lines.proofs.CutTexts.{AllLack, joined_once, lacks, lacks-joined}
use Rattle.click_lines.proofs.Words.{lacks-decimal, lacks-escaped, spelled_once}
use Rattle.click_lines.proofs.PacketWords.{lacks-packet, lacks-packets, packet_once, packets_once}

-- ---- the kind of a call, by its word

abbrev pub first_word : List (List ℕ) → List ℕ
first_word [] = []
first_word (w ∷ ws) = w

-- a number that the first byte and the length of a call's word determine, and that differs for each
-- call
abbrev pub number : List ℕ → ℕ
number w = slice_index w 0 + 1000 * length w

abbrev pub IsOf : ℕ → Call → Type 0
IsOf n d = elim (n == 4114) [
  | true ↦ (name : List ℕ) × (text : List ℕ) × (d ≡ call.Read name text)
  | false ↦ elim (n == 5119) [
    | true ↦ (name : List ℕ) × (text : List ℕ) × (d ≡ call.Write name text)
    | false ↦ elim (n == 9099) [
      | true ↦ (name : List ℕ) × (d ≡ call.CheckRead name)
      | false ↦ elim (n == 10099) [
        | true ↦ (name : List ℕ) × (d ≡ call.CheckWrite name)
        | false ↦ elim (n == 4115) [
          | true ↦ (text : List ℕ) × (d ≡ call.Swap text)
          | false ↦ elim (n == 6097) [
            | true ↦ (device : List ℕ) × (p : Packet) × (d ≡ call.Arrive device p)
            | false ↦ elim (n == 4112) [
              | true ↦ (device : List ℕ) × (ps : List Packet) × (d ≡ call.Poll device ps)
              | false ↦ elim (n == 5114) [
                | true ↦ d ≡ call.Round
                | false ↦ (device : List ℕ) × (d ≡ call.Transmit device)
              ]
            ]
          ]
        ]
      ]
    ]
  ]
]

pub is_of : (d : Call) → IsOf (number (first_word (call_words d))) d
is_of (call.Read name text) = (name, text, refl)
is_of (call.Write name text) = (name, text, refl)
is_of (call.CheckRead name) = (name, refl)
is_of (call.CheckWrite name) = (name, refl)
is_of (call.Swap text) = (text, refl)
is_of (call.Arrive device p) = (device, p, refl)
is_of (call.Poll device ps) = (device, ps, refl)
is_of call.Round = refl
is_of (call.Transmit device) = (device, refl)

like : (c d : Call) → call_words c ≡ call_words d → IsOf (number (first_word (call_words c))) d
like c d e = subst (λ (ws : List (List ℕ)). IsOf (number (first_word ws)) d) (sym e) (is_of d)

-- ---- a line determines the call

word_once : (a b : List ℕ) → AreBytes a → AreBytes b → word a ≡ word b → a ≡ b
word_once a b h k e = spelled_once 33 a b h k e

second : (w a b : List ℕ) (xs ys : List (List ℕ)) → w ∷ a ∷ xs ≡ w ∷ b ∷ ys → (a ≡ b) × (xs ≡ ys)
second w a b xs ys e = (cc, cc)

third : (a b : List ℕ) → a ∷ [] ≡ b ∷ [] → a ≡ b
third a b e = cc

pub calls_once : (c d : Call) → IsCallOfBytes c → IsCallOfBytes d → call_words c ≡ call_words d → c ≡ d
calls_once (call.Read name text) d h k e =
    let v = like (call.Read name text) d e in
    let is : d ≡ call.Read v.0 v.1 = v.2 in
    let k' : IsCallOfBytes (call.Read v.0 v.1) = subst IsCallOfBytes is k in
    let both = second (codes "read") (word name) (word v.0) (word text ∷ []) (word v.1 ∷ []) (e ∙ ap call_words is) in
    let one : name ≡ v.0 = word_once name v.0 h.0 k'.0 both.0 in
    let two : text ≡ v.1 = word_once text v.1 h.1 k'.1 (third (word text) (word v.1) both.1) in
    ap (λ (x : List ℕ). call.Read x text) one ∙ ap (λ (x : List ℕ). call.Read v.0 x) two ∙ sym is
calls_once (call.Write name text) d h k e =
    let v = like (call.Write name text) d e in
    let is : d ≡ call.Write v.0 v.1 = v.2 in
    let k' : IsCallOfBytes (call.Write v.0 v.1) = subst IsCallOfBytes is k in
    let both = second (codes "write") (word name) (word v.0) (word text ∷ []) (word v.1 ∷ []) (e ∙ ap call_words is) in
    let one : name ≡ v.0 = word_once name v.0 h.0 k'.0 both.0 in
    let two : text ≡ v.1 = word_once text v.1 h.1 k'.1 (third (word text) (word v.1) both.1) in
    ap (λ (x : List ℕ). call.Write x text) one ∙ ap (λ (x : List ℕ). call.Write v.0 x) two ∙ sym is
calls_once (call.CheckRead name) d h k e =
    let v = like (call.CheckRead name) d e in
    let is : d ≡ call.CheckRead v.0 = v.1 in
    let both = second (codes "checkread") (word name) (word v.0) [] [] (e ∙ ap call_words is) in
    ap (λ (x : List ℕ). call.CheckRead x) (word_once name v.0 h (subst IsCallOfBytes is k) both.0) ∙ sym is
calls_once (call.CheckWrite name) d h k e =
    let v = like (call.CheckWrite name) d e in
    let is : d ≡ call.CheckWrite v.0 = v.1 in
    let both = second (codes "checkwrite") (word name) (word v.0) [] [] (e ∙ ap call_words is) in
    ap (λ (x : List ℕ). call.CheckWrite x) (word_once name v.0 h (subst IsCallOfBytes is k) both.0) ∙ sym is
calls_once (call.Swap text) d h k e =
    let v = like (call.Swap text) d e in
    let is : d ≡ call.Swap v.0 = v.1 in
    let both = second (codes "swap") (word text) (word v.0) [] [] (e ∙ ap call_words is) in
    ap (λ (x : List ℕ). call.Swap x) (word_once text v.0 h (subst IsCallOfBytes is k) both.0) ∙ sym is
calls_once (call.Arrive device p) d h k e =
    let v = like (call.Arrive device p) d e in
    let is : d ≡ call.Arrive v.0 v.1 = v.2 in
    let k' : IsCallOfBytes (call.Arrive v.0 v.1) = subst IsCallOfBytes is k in
    let both = second (codes "arrive") (word device) (word v.0) (packet_word p ∷ []) (packet_word v.1 ∷ []) (e ∙ ap call_words is) in
    let one : device ≡ v.0 = word_once device v.0 h.0 k'.0 both.0 in
    let two : p ≡ v.1 = packet_once p v.1 h.1 k'.1 (third (packet_word p) (packet_word v.1) both.1) in
    ap (λ (x : List ℕ). call.Arrive x p) one ∙ ap (λ (x : Packet). call.Arrive v.0 x) two ∙ sym is
calls_once (call.Poll device ps) d h k e =
    let v = like (call.Poll device ps) d e in
    let is : d ≡ call.Poll v.0 v.1 = v.2 in
    let k' : IsCallOfBytes (call.Poll v.0 v.1) = subst IsCallOfBytes is k in
    let both = second (codes "poll") (word device) (word v.0) (packets_word ps ∷ []) (packets_word v.1 ∷ []) (e ∙ ap call_words is) in
    let one : device ≡ v.0 = word_once device v.0 h.0 k'.0 both.0 in
    let two : ps ≡ v.1 = packets_once ps v.1 h.1 k'.1 (third (packets_word ps) (packets_word v.1) both.1) in
    ap (λ (x : List ℕ). call.Poll x ps) one ∙ ap (λ (x : List Packet). call.Poll v.0 x) two ∙ sym is
calls_once call.Round d h k e = sym (like call.Round d e)
calls_once (call.Transmit device) d h k e =
    let v = like (call.Transmit device) d e in
    let is : d ≡ call.Transmit v.0 = v.1 in
    let both = second (codes "transmit") (word device) (word v.0) [] [] (e ∙ ap call_words is) in
    ap (λ (x : List ℕ). call.Transmit x) (word_once device v.0 h (subst IsCallOfBytes is k) both.0) ∙ sym is

-- ---- a line determines its content

apart_32 : (d : ℕ) → d < 10 → 48 + d ≡ 32 → ⊥
apart_32 d l e = omega (arith, l, e)

apart_9 : (d : ℕ) → d < 10 → 48 + d ≡ 9 → ⊥
apart_9 d l e = omega (arith, l, e)

no_blank : (bytes : List ℕ) → AreBytes bytes → lacks 32 (word bytes) ≡ true
no_blank bytes h = lacks-escaped 32 33 bytes h (omega arith) refl refl

no_tab : (bytes : List ℕ) → AreBytes bytes → lacks 9 (word bytes) ≡ true
no_tab bytes h = lacks-escaped 9 33 bytes h (omega arith) refl refl

pub no_blanks : (c : Call) → IsCallOfBytes c → AllLack 32 (call_words c)
no_blanks (call.Read name text) h = (refl, (no_blank name h.0, (no_blank text h.1, tt)))
no_blanks (call.Write name text) h = (refl, (no_blank name h.0, (no_blank text h.1, tt)))
no_blanks (call.CheckRead name) h = (refl, (no_blank name h, tt))
no_blanks (call.CheckWrite name) h = (refl, (no_blank name h, tt))
no_blanks (call.Swap text) h = (refl, (no_blank text h, tt))
no_blanks (call.Arrive device p) h = (refl, (no_blank device h.0, (lacks-packet 32 p h.1 refl refl apart_32, tt)))
no_blanks (call.Poll device ps) h = (refl, (no_blank device h.0, (lacks-packets 32 ps h.1 refl refl refl apart_32, tt)))
no_blanks call.Round h = (refl, tt)
no_blanks (call.Transmit device) h = (refl, (no_blank device h, tt))

no_tabs : (c : Call) → IsCallOfBytes c → AllLack 9 (call_words c)
no_tabs (call.Read name text) h = (refl, (no_tab name h.0, (no_tab text h.1, tt)))
no_tabs (call.Write name text) h = (refl, (no_tab name h.0, (no_tab text h.1, tt)))
no_tabs (call.CheckRead name) h = (refl, (no_tab name h, tt))
no_tabs (call.CheckWrite name) h = (refl, (no_tab name h, tt))
no_tabs (call.Swap text) h = (refl, (no_tab text h, tt))
no_tabs (call.Arrive device p) h = (refl, (no_tab device h.0, (lacks-packet 9 p h.1 refl refl apart_9, tt)))
no_tabs (call.Poll device ps) h = (refl, (no_tab device h.0, (lacks-packets 9 ps h.1 refl refl refl apart_9, tt)))
no_tabs call.Round h = (refl, tt)
no_tabs (call.Transmit device) h = (refl, (no_tab device h, tt))

-- a call has at least one word
some_words : (c : Call) → (w : List ℕ) × (ws : List (List ℕ)) × (call_words c ≡ w ∷ ws)
some_words (call.Read name text) = (codes "read", word name ∷ word text ∷ [], refl)
some_words (call.Write name text) = (codes "write", word name ∷ word text ∷ [], refl)
some_words (call.CheckRead name) = (codes "checkread", word name ∷ [], refl)
some_words (call.CheckWrite name) = (codes "checkwrite", word name ∷ [], refl)
some_words (call.Swap text) = (codes "swap", word text ∷ [], refl)
some_words (call.Arrive device p) = (codes "arrive", word device ∷ packet_word p ∷ [], refl)
some_words (call.Poll device ps) = (codes "poll", word device ∷ packets_word ps ∷ [], refl)
some_words call.Round = (codes "round", [], refl)
some_words (call.Transmit device) = (codes "transmit", word device ∷ [], refl)

pub call_line_once : (c d : Call) → IsCallOfBytes c → IsCallOfBytes d → call_line c ≡ call_line d → c ≡ d
call_line_once c d h k e =
    let v = some_words c in
    let w = some_words d in
    let left : AllLack 32 (v.0 ∷ v.1) = subst (AllLack 32) v.2 (no_blanks c h) in
    let right : AllLack 32 (w.0 ∷ w.1) = subst (AllLack 32) w.2 (no_blanks d k) in
    let whole : joined 32 (v.0 ∷ v.1) ≡ joined 32 (w.0 ∷ w.1) = sym (ap (joined 32) v.2) ∙ e ∙ ap (joined 32) w.2 in
    let one = joined_once 32 v.0 w.0 v.1 w.1 left right whole in
    let same : v.0 ∷ v.1 ≡ w.0 ∷ w.1 = ap (λ (x : List ℕ). x ∷ v.1) one.0 ∙ ap (λ (x : List (List ℕ)). w.0 ∷ x) one.1 in
    calls_once c d h k (v.2 ∙ same ∙ sym w.2)

pub columns : (l : Line) → IsLineOfBytes l → AllLack 9 (decimal l.seat ∷ call_line l.call ∷ words l.reply ∷ [])
columns l h = (
  lacks-decimal 9 l.seat apart_9 h.0,
  (lacks-joined 9 32 (call_words l.call) refl (no_tabs l.call h.1), (lacks-escaped 9 32 l.reply h.2 (omega arith) refl refl, tt)),
)

equal : (a b : Line) → a.seat ≡ b.seat → a.call ≡ b.call → a.reply ≡ b.reply → a ≡ b
equal a b seat call reply =
    ap (λ (x : ℕ). record a { seat = x }) seat ∙ ap (λ (x : Call). record a { seat = b.seat; call = x }) call ∙ ap (λ (x : List ℕ). record b { reply = x }) reply

pub line_once : (a b : Line) → IsLineOfBytes a → IsLineOfBytes b → line_text a ≡ line_text b → a ≡ b
line_once a b h k e =
    let one = joined_once 9 (decimal a.seat) (decimal b.seat) (call_line a.call ∷ words a.reply ∷ []) (call_line b.call ∷ words b.reply ∷ []) (columns a h) (columns b k) e in
    let calls : call_line a.call ∷ words a.reply ∷ [] ≡ call_line b.call ∷ words b.reply ∷ [] = one.1 in
    let first : call_line a.call ≡ call_line b.call = cc in
    let last : words a.reply ≡ words b.reply = cc in
    equal a b (decimal_injective a.seat b.seat h.0 k.0 one.0) (call_line_once a.call b.call h.1 k.1 first) (spelled_once 32 a.reply b.reply h.2 k.2 last)
