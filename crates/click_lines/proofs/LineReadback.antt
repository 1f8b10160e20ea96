-- Calls and lines read back.
use Rattle.std.proofs.Common.{◌≡◌, ℕ, ◌≤◌, Option, Some, Result, Ok, Err, List, [], ◌∷◌, length, refl, sym, ap, ◌∙◌, subst, arith}
use Rattle.std.specs.Prelude.{◌==◌, IfOk, if◌then◌else◌, decimal}
use Rattle.std.specs.List.{AllByRecursion}
use Rattle.std.proofs.lemmas.List.{append-nil}
use Rattle.click_packet.specs.Packet.{Packet, longest_packet}
use Rattle.click_router.specs.declared.call.Call.{Call}
use Rattle.click_router.specs.declared.call.Call.TheVariants as call
use Rattle.click_lines.specs.declared.line.Line.{Line}
use Rattle.click_lines.specs.Spelling.{joined, word, words}
use Rattle.click_lines.specs.Lines.{AreBytes, IsPacketOfBytes, IsCallOfBytes, IsLineOfBytes, call_line, call_words, line_text}
use Rattle.click_lines.specs.Reading.{HasPacketsThatFit, IsLaidOut, IsPacket, ReadsBytes, before, after}
use Rattle.click_lines.specs.Kinds.{kind_word}
use Rattle.click_lines.specs.declared.kind.Kind.{Kind}
use Rattle.click_lines.specs.declared.kind.Kind.TheVariants as kind
use Rattle.click_lines.proofs.CutParts.{first_part}
use Rattle.click_lines.proofs.CutTexts.{AllLack}
use Rattle.click_lines.proofs.Entries.{columns, first_word, no_blanks, number}

-- ---- the words of a call

abbrev second_word : List (List ℕ) → List ℕ
second_word [] = []
second_word (v ∷ vs) = first_word vs

abbrev third_word : List (List ℕ) → List ℕ
third_word [] = []
third_word (v ∷ vs) = second_word vs

cut_words : (vs : List (List ℕ)) → AllLack 32 vs → length vs ≤ 3
    → (before 32 (joined 32 vs) ≡ first_word vs) × (before 32 (after 32 (joined 32 vs)) ≡ second_word vs) × (after 32 (after 32 (joined 32 vs)) ≡ third_word vs)
cut_words [] h few = (refl, refl, refl)
cut_words (u ∷ []) h few =
    let one = first_part 32 u [] h.0 in
    (one.0, ap (before 32) one.1, ap (after 32) one.1)
cut_words (u ∷ v ∷ []) h few =
    let one = first_part 32 u (v ∷ []) h.0 in
    let two = first_part 32 v [] h.1.0 in
    (one.0, ap (before 32) one.1 ∙ two.0, ap (after 32) one.1 ∙ two.1)
cut_words (u ∷ v ∷ w ∷ []) h few =
    let one = first_part 32 u (v ∷ w ∷ []) h.0 in
    let two = first_part 32 v (w ∷ []) h.1.0 in
    (one.0, ap (before 32) one.1 ∙ two.0, ap (after 32) one.1 ∙ two.1 ∙ append-nil w)
cut_words (u ∷ v ∷ w ∷ x ∷ vs) h few = absurd (omega (arith, few))

three : (c : Call) → length (call_words c) ≤ 3
three (call.Read name text) = omega arith
three (call.Write name text) = omega arith
three (call.CheckRead name) = omega arith
three (call.CheckWrite name) = omega arith
three (call.Swap text) = omega arith
three (call.Arrive device p) = omega arith
three (call.Poll device ps) = omega arith
three call.Round = omega arith
three (call.Transmit device) = omega arith

-- the line of a call is cut into its words
pub cut_call : (c : Call) (text : List ℕ) → IsCallOfBytes c → call_line c ≡ text
    → (before 32 text ≡ first_word (call_words c)) × (before 32 (after 32 text) ≡ second_word (call_words c)) × (after 32 (after 32 text) ≡ third_word (call_words c))
cut_call c text h e =
    subst (λ (t : List ℕ). (before 32 t ≡ first_word (call_words c)) × (before 32 (after 32 t) ≡ second_word (call_words c)) × (after 32 (after 32 t) ≡ third_word (call_words c))) e
    (cut_words (call_words c) (no_blanks c h) (three c))

-- ---- the kind of a call

abbrev kind_at : ℕ → Kind
kind_at n =
    if n == 4114 then kind.Read
    else if n == 5119 then kind.Write
    else if n == 9099 then kind.CheckRead
    else if n == 10099 then kind.CheckWrite
    else if n == 4115 then kind.Swap
    else if n == 6097 then kind.Arrive
    else if n == 4112 then kind.Poll
    else if n == 5114 then kind.Round
    else kind.Transmit

kind_back : (k : Kind) → kind_at (number (kind_word k)) ≡ k
kind_back kind.Read = refl
kind_back kind.Write = refl
kind_back kind.CheckRead = refl
kind_back kind.CheckWrite = refl
kind_back kind.Swap = refl
kind_back kind.Arrive = refl
kind_back kind.Poll = refl
kind_back kind.Round = refl
kind_back kind.Transmit = refl

kind_once : (k l : Kind) → kind_word k ≡ kind_word l → k ≡ l
kind_once k l e = sym (kind_back k) ∙ ap (λ (w : List ℕ). kind_at (number w)) e ∙ kind_back l

abbrev pub kind_of : Call → Kind
kind_of (call.Read name text) = kind.Read
kind_of (call.Write name text) = kind.Write
kind_of (call.CheckRead name) = kind.CheckRead
kind_of (call.CheckWrite name) = kind.CheckWrite
kind_of (call.Swap text) = kind.Swap
kind_of (call.Arrive device p) = kind.Arrive
kind_of (call.Poll device ps) = kind.Poll
kind_of call.Round = kind.Round
kind_of (call.Transmit device) = kind.Transmit

kind_first : (c : Call) → kind_word (kind_of c) ≡ first_word (call_words c)
kind_first (call.Read name text) = refl
kind_first (call.Write name text) = refl
kind_first (call.CheckRead name) = refl
kind_first (call.CheckWrite name) = refl
kind_first (call.Swap text) = refl
kind_first (call.Arrive device p) = refl
kind_first (call.Poll device ps) = refl
kind_first call.Round = refl
kind_first (call.Transmit device) = refl

-- the first word of a call's line is that of its kind
pub some_kind : (c : Call) (text : List ℕ) → IsCallOfBytes c → call_line c ≡ text → kind_word (kind_of c) ≡ before 32 text
some_kind c text h e = kind_first c ∙ sym (cut_call c text h e).0

-- the bytes of a call's first word after that of its kind
abbrev pub first_bytes : Call → List ℕ
first_bytes (call.Read name text) = name
first_bytes (call.Write name text) = name
first_bytes (call.CheckRead name) = name
first_bytes (call.CheckWrite name) = name
first_bytes (call.Swap text) = text
first_bytes (call.Arrive device p) = device
first_bytes (call.Poll device ps) = device
first_bytes call.Round = []
first_bytes (call.Transmit device) = device

are_first : (c : Call) → IsCallOfBytes c → AreBytes (first_bytes c) × (word (first_bytes c) ≡ second_word (call_words c))
are_first (call.Read name text) h = (h.0, refl)
are_first (call.Write name text) h = (h.0, refl)
are_first (call.CheckRead name) h = (h, refl)
are_first (call.CheckWrite name) h = (h, refl)
are_first (call.Swap text) h = (h, refl)
are_first (call.Arrive device p) h = (h.0, refl)
are_first (call.Poll device ps) h = (h.0, refl)
are_first call.Round h = (tt, refl)
are_first (call.Transmit device) h = (h, refl)

-- these bytes are read from a call's line
pub first_read : (c : Call) (text : List ℕ) (read : Option (List ℕ)) → IsCallOfBytes c → call_line c ≡ text → ReadsBytes (before 32 (after 32 text)) read → read ≡ Some (first_bytes c)
first_read c text read h e reads = let f = are_first c h in reads 33 (first_bytes c) f.0 (f.1 ∙ sym (cut_call c text h e).1)

all_packets : (ps : List Packet) → AllByRecursion IsPacketOfBytes ps → AllByRecursion (λ p. length p.bytes ≤ longest_packet) ps → AllByRecursion IsPacket ps
all_packets [] h fit = tt
all_packets (p ∷ ps) h fit = ((h.0, fit.0), all_packets ps h.1 fit.1)

laid : (c : Call) (last : List ℕ) → IsCallOfBytes c → HasPacketsThatFit c → third_word (call_words c) ≡ last → IsLaidOut (kind_of c) (first_bytes c) last c
laid (call.Read name text) last h fit e = (text, h.1, e, refl)
laid (call.Write name text) last h fit e = (text, h.1, e, refl)
laid (call.CheckRead name) last h fit e = refl
laid (call.CheckWrite name) last h fit e = refl
laid (call.Swap text) last h fit e = refl
laid (call.Arrive device p) last h fit e = (p, (h.1, fit), e, refl)
laid (call.Poll device ps) last h fit e = (ps, all_packets ps h.1 fit, e, refl)
laid call.Round last h fit e = refl
laid (call.Transmit device) last h fit e = refl

-- the line of a call has the words of the call, whatever was read from it
pub laid_out : (c : Call) (k : Kind) (first text : List ℕ) → IsCallOfBytes c → HasPacketsThatFit c → call_line c ≡ text → kind_word k ≡ before 32 text
    → Some first ≡ Some (first_bytes c) → IsLaidOut k first (after 32 (after 32 text)) c
laid_out c k first text h fit e is read =
    let kinds : kind_of c ≡ k = kind_once (kind_of c) k (some_kind c text h e ∙ sym is) in
    let firsts : first_bytes c ≡ first = cc in
    let last = after 32 (after 32 text) in
    subst (λ (x : Kind). IsLaidOut x first last c) kinds (subst (λ (x : List ℕ). IsLaidOut (kind_of c) x last c) firsts (laid c last h fit (sym (cut_call c text h e).2)))

-- ---- the columns of a line

pub cut_line : (l : Line) (text : List ℕ) → IsLineOfBytes l → line_text l ≡ text
    → (decimal l.seat ≡ before 9 text) × (call_line l.call ≡ before 9 (after 9 text)) × (words l.reply ≡ after 9 (after 9 text))
cut_line l text h e =
    let c = columns l h in
    let one = first_part 9 (decimal l.seat) (call_line l.call ∷ words l.reply ∷ []) c.0 in
    let two = first_part 9 (call_line l.call) (words l.reply ∷ []) c.1.0 in
    let behind : after 9 text ≡ joined 9 (call_line l.call ∷ words l.reply ∷ []) = ap (after 9) (sym e) ∙ one.1 in
    (sym one.0 ∙ ap (before 9) e, sym two.0 ∙ ap (before 9) (sym behind), sym (append-nil (words l.reply)) ∙ sym two.1 ∙ ap (after 9) (sym behind))

pub if_ok : {A E : Type 0} (r : Result A E) (P Q : A → Type 0) → ((a : A) → P a → Q a) → IfOk r P → IfOk r Q
if_ok (Ok a) P Q f h = f a h
if_ok (Err e) P Q f h = tt
