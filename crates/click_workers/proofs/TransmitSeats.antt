-- In a run with links, only the forwarder's seat makes Transmits.
use Rattle.std.proofs.Common.{◌≡◌, ℕ, zero, suc, ◌==◌, ◌⊎◌, inl, inr, slice_index_or, Bool, true, false, true≢false, if◌then◌else◌, List, Option, Some, None, IfSome, Result, [], ◌∷◌, ◌++◌, count_by, refl, sym, ap, ◌∙◌, subst, arith}
use Rattle.std.proofs.lemmas.Bool.Decides.{nat_tests}
use Rattle.std.specs.List.{All}
use Rattle.std.proofs.lemmas.List.Elements.{All-nil, All-cons, All-head, All-tail}
use Rattle.click_router.specs.One.{is_transmit}
use Rattle.click_router.specs.declared.call.Call.{Call}
use Rattle.click_router.specs.declared.call.Call.TheVariants as call
use Rattle.click_router.specs.declared.call.Reply.{Reply}
use Rattle.click_control.specs.Serving.{Course, call_of}
use Rattle.click_streams.specs.Peers.{Input, Output}
use Rattle.click_control.specs.declared.command.Answer.{Answer}
use Rattle.click_control.specs.declared.command.Answer.TheVariants as answer
use Rattle.click_control.specs.declared.command.Command.{Command}
use Rattle.click_control.specs.declared.command.Command.TheVariants as command
use Rattle.click_control.specs.declared.serving.Ended.{Ended}
use Rattle.click_control.specs.declared.serving.ServeFault.{ServeFault}
use Rattle.click_desk.specs.Closing.{IsEntered}
use Rattle.click_desk.specs.History.{entries}
use Rattle.click_desk.specs.SeatStates.{SeatState, new_seat}
use Rattle.click_desk.specs.declared.entry.Entry.{Entry}
use Rattle.click_links.specs.Forwarding.{given_by, gifts_by}
use Rattle.click_workers.specs.Linked.{AreQuiet, calls_in}
use Rattle.click_workers.specs.Seats.{SeatServes, made, made_one}
use Rattle.click_workers.specs.Work.{Attends, AttendedInTurn, DroveFor, InTurn, SideBySide, Worked}
use Rattle.click_workers.specs.declared.session.SessionEnd.{SessionEnd}
use Rattle.click_workers.specs.declared.session.SessionEnd.TheVariants as end
use Rattle.click_workers.proofs.OtherSeats.{both-all, each-part}
use Rattle.click_workers.proofs.LastViews.{seat-of}
use Rattle.click_workers.proofs.NewSeats.{drove-alone}

pub quiet-both : (xs ys : List (Call × Reply)) → AreQuiet xs → AreQuiet ys → AreQuiet (xs ++ ys)
quiet-both [] ys a b = b
quiet-both (x ∷ xs) ys a b =
    All-cons (λ (p : Call × Reply). is_transmit p.0 ≡ false) x (xs ++ ys) (All-head (λ (p : Call × Reply). is_transmit p.0 ≡ false) x xs a)
    (quiet-both xs ys (All-tail (λ (p : Call × Reply). is_transmit p.0 ≡ false) x xs a) b)

call-quiet : (readonly : Bool) (c : Command) → IfSome (call_of readonly c) (λ k. is_transmit k ≡ false)
call-quiet readonly (command.Read handler text) = refl
call-quiet true (command.Write handler text) = tt
call-quiet false (command.Write handler text) = refl
call-quiet readonly (command.CheckRead handler) = refl
call-quiet true (command.CheckWrite handler) = tt
call-quiet false (command.CheckWrite handler) = refl
call-quiet readonly _ = tt

one-quiet : (o : Option Call) (a : Answer) → IfSome o (λ k. is_transmit k ≡ false) → AreQuiet (made_one o a)
one-quiet None a h = All-nil (λ (p : Call × Reply). is_transmit p.0 ≡ false)
one-quiet (Some c) (answer.Replied r) h = All-cons (λ (p : Call × Reply). is_transmit p.0 ≡ false) (c, r) [] h (All-nil (λ (p : Call × Reply). is_transmit p.0 ≡ false))
one-quiet (Some c) (answer.Failed f) h = All-nil (λ (p : Call × Reply). is_transmit p.0 ≡ false)
one-quiet (Some c) answer.NoCall h = All-nil (λ (p : Call × Reply). is_transmit p.0 ≡ false)

-- A session makes no Transmit.
pub made-quiet : (readonly : Bool) (cs : List Command) (answers : List Answer) → AreQuiet (made readonly cs answers)
made-quiet readonly [] answers = All-nil (λ (p : Call × Reply). is_transmit p.0 ≡ false)
made-quiet readonly (c ∷ cs) [] = All-nil (λ (p : Call × Reply). is_transmit p.0 ≡ false)
made-quiet readonly (c ∷ cs) (a ∷ answers) =
    quiet-both (made_one (call_of readonly c) a) (made readonly cs answers) (one-quiet (call_of readonly c) a (call-quiet readonly c)) (made-quiet readonly cs answers)

serves-quiet : (readonly : Bool) (most : ℕ) (went : Result Ended ServeFault → Course → Type 0) (old new : SeatState) (had left : Input) (held holds : Output) (r : Result Ended ServeFault)
    → SeatServes readonly most went old new had left held holds r → AreQuiet old.calls → AreQuiet new.calls
serves-quiet readonly most went old new had left held holds r h quiet =
    subst AreQuiet (sym h.calls) (quiet-both old.calls _ quiet (made-quiet readonly h.serves.course.taken h.serves.course.answers))

module _ {D Rd Wr G : Type 0} (lets_in : D → ℕ → Option (Rd × Wr) → Type 0) (input : Rd → Input) (output : Wr → Output) (gives : G → ℕ → ℕ → Bool → Type 0) (told : G → ℕ → ℕ → Type 0)
    (door : D) (gate : G) (readonly : Bool) where
  attends-quiet : (who : ℕ) (old new : SeatState) (e : SessionEnd) → Attends lets_in input output gives told door gate readonly who old new e → AreQuiet old.calls → AreQuiet new.calls
  attends-quiet who old new end.NoEntry h quiet = subst (λ (s : SeatState). AreQuiet s.calls) (sym h.1) quiet
  attends-quiet who old new (end.Served r) h quiet = serves-quiet readonly _ _ old new _ _ _ _ r h.6 quiet

  turns-quiet : (who n : ℕ) (old new : SeatState) (e : SessionEnd) → InTurn (Attends lets_in input output gives told door gate readonly who) n old new e → AreQuiet old.calls → AreQuiet new.calls
  turns-quiet who zero old new e h quiet = absurd h
  turns-quiet who (suc zero) old new e h quiet = attends-quiet who old new e h quiet
  turns-quiet who (suc (suc n)) old new e h quiet = attends-quiet who h.0 new e h.3 (turns-quiet who (suc n) old h.0 h.1 h.2 quiet)

  -- The sessions of a slot make no Transmit.
  pub place-quiet : (turns : ℕ) (s : SeatState) (e : SessionEnd) → AttendedInTurn lets_in input output gives told door gate readonly turns s e → AreQuiet s.calls
  place-quiet turns s e h = turns-quiet (suc s.number) turns (new_seat s.desk s.feeds s.number) s e h (All-nil (λ (p : Call × Reply). is_transmit p.0 ≡ false))

rounds-quiet : (calls : List (Call × Reply)) → All (λ p. p.0 ≡ call.Round) calls → AreQuiet calls
rounds-quiet calls h = λ k d below. ap is_transmit (h k d below)

-- A driver makes no Transmit.
pub driver-quiet : {G : Type 0} (gives : G → ℕ → ℕ → Bool → Type 0) (told : G → ℕ → ℕ → Type 0) (gate : G) (rounds : Option ℕ) (s : SeatState) (all : Bool)
    → DroveFor gives told gate rounds s all → AreQuiet s.calls
driver-quiet gives told gate rounds s all h = rounds-quiet s.calls (drove-alone gives told gate rounds s all h)

each-of : {Y : Type 0} (R : SeatState → Y → Type 0) (P : SeatState → Type 0) → ((s : SeatState) (y : Y) → R s y → P s) → (xs : List SeatState) (ys : List Y) → SideBySide R xs ys → All P xs
each-of R P f [] [] h = All-nil P
each-of R P f [] (y ∷ ys) h = absurd h
each-of R P f (x ∷ xs) [] h = absurd h
each-of R P f (x ∷ xs) (y ∷ ys) h = All-cons P x xs (f x y h.0) (each-of R P f xs ys h.1)

-- No session slot and no driver makes a Transmit.
pub served-quiet : (attends : SeatState → SessionEnd → Type 0) (drives : SeatState → Bool → Type 0) → ((s : SeatState) (e : SessionEnd) → attends s e → AreQuiet s.calls)
    → ((s : SeatState) (all : Bool) → drives s all → AreQuiet s.calls) → (sessions n : ℕ) (seats : List SeatState) (ended : List SessionEnd) (drivers : List Bool)
    → Worked attends drives sessions n seats ended drivers → All (λ (s : SeatState). AreQuiet s.calls) seats
served-quiet attends drives f g sessions n seats ended drivers w =
    subst (λ (l : List SeatState). All (λ (s : SeatState). AreQuiet s.calls) l) (sym w.parts)
    (both-all (λ (s : SeatState). AreQuiet s.calls) w.first w.others (each-of attends (λ (s : SeatState). AreQuiet s.calls) f w.first ended w.attended)
    (each-of drives (λ (s : SeatState). AreQuiet s.calls) g w.others drivers w.driven))

-- No entry of this seat is a Transmit.
abbrev IsQuietSeat : List Entry → ℕ → Type 0
IsQuietSeat es n = All (λ (e : Entry). (e.seat == n) ≡ true → is_transmit e.call ≡ false) es

quiet-first : (b : Bool) (e : Entry) (rest : List (Call × Reply)) → AreQuiet (if b then ((e.call, e.reply) ∷ rest) else rest) → AreQuiet rest × (b ≡ true → is_transmit e.call ≡ false)
quiet-first true e rest h = (All-tail (λ (p : Call × Reply). is_transmit p.0 ≡ false) (e.call, e.reply) rest h, λ is. All-head (λ (p : Call × Reply). is_transmit p.0 ≡ false) (e.call, e.reply) rest h)
quiet-first false e rest h = (h, λ is. absurd (true≢false (sym is)))

quiet-seat : (es : List Entry) (n : ℕ) → AreQuiet (entries es n) → IsQuietSeat es n
quiet-seat [] n h = All-nil (λ (e : Entry). (e.seat == n) ≡ true → is_transmit e.call ≡ false)
quiet-seat (e ∷ es) n h =
    let k = quiet-first (e.seat == n) e (entries es n) h in
    All-cons (λ (x : Entry). (x.seat == n) ≡ true → is_transmit x.call ≡ false) e es k.1 (quiet-seat es n k.0)

not-given : (device : List ℕ) (c : Call) (r : Reply) → is_transmit c ≡ false → given_by device c r ≡ []
not-given device (call.Transmit from) r h = absurd (true≢false h)
not-given device _ r h = refl

gift-first : (device : List ℕ) (b : Bool) (e : Entry) (all mine : List (Call × Reply)) → (b ≡ false → is_transmit e.call ≡ false) → gifts_by device all ≡ gifts_by device mine
    → gifts_by device ((e.call, e.reply) ∷ all) ≡ gifts_by device (if b then ((e.call, e.reply) ∷ mine) else mine)
gift-first device true e all mine quiet same = ap (λ l. given_by device e.call e.reply ++ l) same
gift-first device false e all mine quiet same = ap (λ l. l ++ gifts_by device all) (not-given device e.call e.reply (quiet refl)) ∙ same

-- If no entry of another seat is a Transmit, the packets that Transmits of a device returned are
-- those that Transmits of this seat returned.
packets_given-apart : (device : List ℕ) (n : ℕ) (es : List Entry) → All (λ (e : Entry). (e.seat == n) ≡ false → is_transmit e.call ≡ false) es
    → gifts_by device (calls_in es) ≡ gifts_by device (entries es n)
packets_given-apart device n [] h = refl
packets_given-apart device n (e ∷ es) h =
    gift-first device (e.seat == n) e (calls_in es) (entries es n) (All-head (λ (x : Entry). (x.seat == n) ≡ false → is_transmit x.call ≡ false) e es h)
    (packets_given-apart device n es (All-tail (λ (x : Entry). (x.seat == n) ≡ false → is_transmit x.call ≡ false) e es h))

same-number : (a b : ℕ) → a ≡ b → (a == b) ≡ true
same-number a b h = grind (arith, nat_tests, h)

-- Apart from the seat with the number `own`, none of these seats has an entry that is a Transmit.
each-quiet : (es : List Entry) (own : ℕ) (ss : List SeatState) → All (λ (s : SeatState). AreQuiet s.calls) ss → All (IsEntered es) ss
    → All (λ (s : SeatState). (s.number ≡ own) ⊎ IsQuietSeat es s.number) ss
each-quiet es own [] quiet entered = All-nil (λ (s : SeatState). (s.number ≡ own) ⊎ IsQuietSeat es s.number)
each-quiet es own (s ∷ ss) quiet entered =
    let mine : AreQuiet (entries es s.number) = subst AreQuiet (sym (All-head (IsEntered es) s ss entered).0) (All-head (λ (t : SeatState). AreQuiet t.calls) s ss quiet) in
    All-cons (λ (t : SeatState). (t.number ≡ own) ⊎ IsQuietSeat es t.number) s ss (inr (quiet-seat es s.number mine))
    (each-quiet es own ss (All-tail (λ (t : SeatState). AreQuiet t.calls) s ss quiet) (All-tail (IsEntered es) s ss entered))

-- If all other seats make no Transmit, the packets that Transmits of a device returned in a history
-- are those in the calls of one seat.
pub gives-alone : (device : List ℕ) (es : List Entry) (seats served rest : List SeatState) (one : SeatState) → seats ≡ served ++ one ∷ rest → All (λ (s : SeatState). AreQuiet s.calls) served
    → All (λ (s : SeatState). AreQuiet s.calls) rest → All (IsEntered es) seats → All (λ e. count_by (λ s. s.number == e.seat) seats ≡ 1) es → gifts_by device (calls_in es) ≡ gifts_by device one.calls
gives-alone device es seats served rest one parts quiet quiet_rest entered numbered =
    let P : SeatState → Type 0 = λ s. (s.number ≡ one.number) ⊎ IsQuietSeat es s.number in
    let halves = each-part (IsEntered es) served (one ∷ rest) (subst (λ (l : List SeatState). All (IsEntered es) l) parts entered) in
    let own : entries es one.number ≡ one.calls = (All-head (IsEntered es) one rest halves.1).0 in
    let behind = All-cons P one rest (inl refl) (each-quiet es one.number rest quiet_rest (All-tail (IsEntered es) one rest halves.1)) in
    let all : All P seats = subst (λ (l : List SeatState). All P l) (sym parts) (both-all P served (one ∷ rest) (each-quiet es one.number served quiet halves.0) behind) in
    let others : All (λ (e : Entry). (e.seat == one.number) ≡ false → is_transmit e.call ≡ false) es =
    λ k d below. λ other.
    let e = slice_index_or es k d in
    let found = seat-of P e.seat seats all (numbered k d below) in
    elim found.2 [
      | inl same ↦ absurd (true≢false (sym (same-number e.seat one.number (sym found.1 ∙ same)) ∙ other))
      | inr none ↦ none k d below (same-number e.seat found.0.number (sym found.1))
    ] in
    packets_given-apart device one.number es others ∙ ap (gifts_by device) own
