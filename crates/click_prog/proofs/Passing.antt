-- Lemmas on what packets and records lead to, one after another.
use Rattle.std.proofs.Common.{◌≡◌, ℕ, ◌+◌, List, [], ◌∷◌, ◌++◌, length, false, Some, Err, refl, sym, ap, subst, ◌∙◌, append_assoc, append-nil, inl, arith}
use Rattle.std.specs.Prelude.{min, ◌-◌, ◌^◌}
use Rattle.std.proofs.lemmas.Bool.Decides.{nat_tests}
use Rattle.std.specs.Io.KnownBytes.{IsAtEnd}
use Rattle.std.proofs.lemmas.List.{length-append}
use Rattle.click_packet.specs.Packet.{Packet}
use Rattle.click_capture.specs.Numbers.{word, half}
use Rattle.click_capture.specs.declared.order.Order.TheVariants as order
use Rattle.click_capture.specs.Captures.{Record, whole, header_bytes, record_bytes, records_bytes, capture_bytes}
use Rattle.click_capture.specs.declared.header.Header.{Header}
use Rattle.click_capture.specs.declared.order.Order.{Order}
use Rattle.click_capture.specs.declared.record.Time.{Time}
use Rattle.click_streams.specs.Peers.{Input, Output, HasWritten}
use Rattle.click_router.specs.State.{RouterState}
use Rattle.click_prog.specs.declared.pcap.carry_fault.SendFault.{SendFault}
use Rattle.click_prog.specs.declared.pcap.carry_fault.SendFault.TheVariants as unsent
use Rattle.click_prog.specs.Reading.{Took, TookAll}
use Rattle.click_prog.specs.Passages.{PassageState, went, Asked, Gave}
use Rattle.click_prog.specs.Carrying.{at_time, records_at, widened_header, Gives, AllGive, Carried, Interrupted, send_carry_fault, IsNextAt, Ends}
use Rattle.click_prog.proofs.Pieces.{Took-then}
use Rattle.click_prog.proofs.Outputs.{HasWritten-then}

-- ---- packets that the sink returns

pub gave-more : (sink : List ℕ) (s mid t : RouterState) (ps : List Packet) (p : Packet) → Gave sink s ps mid → Asked sink mid (Some p) t → Gave sink s (ps ++ p ∷ []) t
gave-more sink s mid t [] p h a = (t, subst (λ (x : RouterState). Asked sink x (Some p) t) h a, refl)
gave-more sink s mid t (q ∷ ps) p h a = (h.0, h.1, gave-more sink h.0 mid t ps p h.2 a)

at_time-append : (t : Time) (ps qs : List Packet) → at_time t (ps ++ qs) ≡ at_time t ps ++ at_time t qs
at_time-append t [] qs = refl
at_time-append t (p ∷ ps) qs = ap (λ (l : List Record). whole t p.bytes ∷ l) (at_time-append t ps qs)

records-append : (o : Order) (rs qs : List Record) → records_bytes o (rs ++ qs) ≡ records_bytes o rs ++ records_bytes o qs
records-append o [] qs = refl
records-append o (r ∷ rs) qs = ap (λ (l : List ℕ). record_bytes o r ++ l) (records-append o rs qs) ∙ sym (append_assoc (record_bytes o r) (records_bytes o rs) (records_bytes o qs))

pub records_at-more : (o : Order) (t : Time) (ps : List Packet) (p : Packet) → records_at o t (ps ++ p ∷ []) ≡ records_at o t ps ++ record_bytes o (whole t p.bytes)
records_at-more o t ps p =
    ap (λ (l : List Record). records_bytes o l) (at_time-append t ps (p ∷ [])) ∙ records-append o (at_time t ps) (whole t p.bytes ∷ [])
    ∙ ap (λ (l : List ℕ). records_at o t ps ++ l) (append-nil (record_bytes o (whole t p.bytes)))

pub one-more : {T : Type 0} (xs : List T) (x : T) → length (xs ++ x ∷ []) ≡ length xs + 1
one-more xs x = length-append xs (x ∷ [])

-- ---- routers with their devices

pub went-same : (w : PassageState) → w ≡ went w w.router
went-same w = refl

pub went-on : (w v u : PassageState) (s t : RouterState) → v ≡ went w s → u ≡ went v t → u ≡ went w t
went-on w v u s t p q = q ∙ ap (λ (x : PassageState). went x t) p

-- the sink returned one more packet
pub asks-more : (w v u : PassageState) (ps : List Packet) (p : Packet) → Gave w.sink w.router ps v.router → v ≡ went w v.router → Asked v.sink v.router (Some p) u.router → u ≡ went v u.router
    → Gave w.sink w.router (ps ++ p ∷ []) u.router × (u ≡ went w u.router)
asks-more w v u ps p gave way asks on =
    let sink : v.sink ≡ w.sink = ap (λ (x : PassageState). x.sink) way in
    (gave-more w.sink w.router v.router u.router ps p gave (subst (λ (s : List ℕ). Asked s v.router (Some p) u.router) sink asks), went-on w v u v.router u.router way on)

-- ---- records

give-more : (source sink : List ℕ) (rs : List Record) (r : Record) (s mid t : RouterState) (outs : List Record) (sent : List Packet)
    → AllGive source sink rs s outs mid → Gives source sink r mid sent t → AllGive source sink (rs ++ r ∷ []) s (outs ++ at_time r.time sent) t
give-more source sink [] r s mid t outs sent h g = (
  sent,
  t,
  [],
  subst (λ (x : RouterState). Gives source sink r x sent t) h.1 g,
  (refl, refl),
  ap (λ (l : List Record). l ++ at_time r.time sent) h.0 ∙ sym (append-nil (at_time r.time sent)),
)
give-more source sink (x ∷ xs) r s mid t outs sent h g = (
  h.0,
  h.1,
  h.2 ++ at_time r.time sent,
  h.3,
  give-more source sink xs r h.1 mid t h.2 sent h.4 g,
  ap (λ (l : List Record). l ++ at_time r.time sent) h.5 ∙ append_assoc (at_time x.time h.0) h.2 (at_time r.time sent),
)

capture-append : (h : Header) (rs qs : List Record) → capture_bytes h (rs ++ qs) ≡ capture_bytes h rs ++ records_bytes h.order qs
capture-append h rs qs = ap (λ (l : List ℕ). header_bytes h ++ l) (records-append h.order rs qs) ∙ sym (append_assoc (header_bytes h) (records_bytes h.order rs) (records_bytes h.order qs))

capture-more : (h : Header) (rs : List Record) (r : Record) → capture_bytes h (rs ++ r ∷ []) ≡ capture_bytes h rs ++ record_bytes h.order r
capture-more h rs r = capture-append h rs (r ∷ []) ∙ ap (λ (b : List ℕ). capture_bytes h rs ++ b) (append-nil (record_bytes h.order r))

pub carried-more : (h : Header) (had mid left : Input) (held midst holds : Output) (first before new : PassageState) (records : List Record) (r : Record) (sent : List Packet)
    → Carried h had mid held midst first before records → Took mid left (record_bytes h.order r) → Gives before.source before.sink r before.router sent new.router
    → new ≡ went before new.router → HasWritten midst holds (records_at h.order r.time sent) false → Carried h had left held holds first new (records ++ r ∷ [])
carried-more h had mid left held midst holds first before new records r sent c took gives ends wrote =
    let source : before.source ≡ first.source = ap (λ (w : PassageState). w.source) c.ends in
    let sink : before.sink ≡ first.sink = ap (λ (w : PassageState). w.sink) c.ends in
    let at_first : Gives first.source first.sink r before.router sent new.router =
    subst (λ (s : List ℕ). Gives first.source s r before.router sent new.router) sink (subst (λ (s : List ℕ). Gives s before.sink r before.router sent new.router) source gives) in
    let out : capture_bytes (widened_header h) (c.outs ++ at_time r.time sent) ≡ capture_bytes (widened_header h) c.outs ++ records_at h.order r.time sent =
    capture-append (widened_header h) c.outs (at_time r.time sent) in
    record {
      read = subst (λ (b : List ℕ). Took had left b) (sym (capture-more h records r)) (Took-then had mid left _ _ c.read took);
      outs = c.outs ++ at_time r.time sent;
      give = give-more first.source first.sink records r first.router before.router new.router c.outs sent c.give at_first;
      ends = went-on first before new before.router new.router c.ends ends;
      written = subst (λ (b : List ℕ). HasWritten held holds b false) (sym out) (HasWritten-then held midst holds _ _ false c.written wrote);
    }

-- ---- the lengths of a header and of a record

word-len : (o : Order) (n : ℕ) → length (word o n) ≡ 4
word-len order.Little n = refl
word-len order.Big n = refl

half-len : (o : Order) (n : ℕ) → length (half o n) ≡ 2
half-len order.Little n = refl
half-len order.Big n = refl

header-len : (h : Header) → length (header_bytes h) ≡ 24
header-len h =
    simp (length-append, word-len, half-len) refl

record-len : (o : Order) (r : Record) → length (record_bytes o r) ≡ 16 + length r.bytes
record-len o r =
    simp (length-append, word-len) (omega arith)

-- the first record begins after the header
pub first-at : (h : Header) → IsNextAt h [] 24
first-at h =
    let len : length (capture_bytes h []) ≡ 24 = ap length (append-nil (header_bytes h)) ∙ header-len h in
    sym (ap (λ (n : ℕ). min n (2 ^ 64 - 1)) len)

topped : (a b top : ℕ) → min (min a top + b) top ≡ min (a + b) top
topped a b top = grind (arith, nat_tests)

-- the next record begins after the one that was carried
pub next-at : (h : Header) (records : List Record) (r : Record) (at kept next : ℕ) → IsNextAt h records at → length r.bytes ≡ kept → next ≡ min (at + (16 + kept)) (2 ^ 64 - 1)
    → IsNextAt h (records ++ r ∷ []) next
next-at h records r at kept next here len is =
    let all : length (capture_bytes h (records ++ r ∷ [])) ≡ length (capture_bytes h records) + (16 + kept) =
    ap length (capture-more h records r) ∙ length-append (capture_bytes h records) (record_bytes h.order r)
    ∙ ap (λ (n : ℕ). length (capture_bytes h records) + n) (record-len h.order r ∙ ap (λ (n : ℕ). 16 + n) len) in
    is ∙ ap (λ (n : ℕ). min (n + (16 + kept)) (2 ^ 64 - 1)) here ∙ topped (length (capture_bytes h records)) (16 + kept) (2 ^ 64 - 1) ∙ sym (ap (λ (n : ℕ). min n (2 ^ 64 - 1)) all)

-- ---- how a capture ends

-- no byte is left to read
pub ended : (h : Header) (had mid left : Input) (held holds : Output) (first new : PassageState) (records : List Record) → Carried h had mid held holds first new records → TookAll mid left []
    → Carried h had left held holds first new records × IsAtEnd left.remaining
ended h had mid left held holds first new records c took = (
  record {
    read = subst (λ (b : List ℕ). Took had left b) (append-nil (capture_bytes h records)) (Took-then had mid left _ [] c.read took.took);
    outs = c.outs;
    give = c.give;
    ends = c.ends;
    written = c.written;
  },
  took.ended,
)

-- the header was read and written
pub begun : (h : Header) (had left : Input) (held holds : Output) (w : PassageState) → Took had left (header_bytes h) → HasWritten held holds (header_bytes (widened_header h)) false → Carried h had left held holds w w []
begun h had left held holds w took wrote = record {
  read = subst (λ (b : List ℕ). Took had left b) (sym (append-nil (header_bytes h))) took;
  outs = [];
  give = (refl, refl);
  ends = refl;
  written = subst (λ (b : List ℕ). HasWritten held holds b false) (sym (append-nil (header_bytes (widened_header h)))) wrote;
}

-- the run stopped early at a record
pub interrupted : (T : Type 0) (h : Header) (had mid left : Input) (held midst holds : Output) (first before new : PassageState) (records : List Record) (why : SendFault) (number at : ℕ)
    → Carried h had mid held midst first before records → Interrupted h mid left midst holds before new why → number ≡ length records + 1 → IsNextAt h records at
    → Ends {T = T} h had left held holds first new (Err (send_carry_fault why number at))
interrupted T h had mid left held midst holds first before new records unsent.GivesOn number at c i n k = (records, mid, midst, before, c, i, n, k)
interrupted T h had mid left held midst holds first before new records unsent.WriteFailed number at c i n k = inl (records, mid, midst, before, c, i)
