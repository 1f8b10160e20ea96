-- What a seat knows after its pass took the logged router, a call was entered, and the pass gave it
-- back.
use Rattle.std.proofs.Common.{◌≡◌, ◌↔◌, ℕ, List, [], ◌∷◌, ◌++◌, length, ◌<◌, ◌≤◌, Result, Ok, Err, Some, IfOk, IfErr, OnErr, sym, refl, ap, ◌∙◌, subst, arith, append-nil, length-append}
use Rattle.atomic_table.specs.Seated.{TableId}
use Rattle.click_router.specs.declared.call.Call.{Call}
use Rattle.click_router.specs.declared.call.Call.TheVariants as call
use Rattle.click_router.specs.declared.call.Reply.{Reply}
use Rattle.click_router.specs.declared.call.Reply.TheVariants as reply
use Rattle.click_desk.specs.LoggedRouterState.{LoggedRouterState}
use Rattle.click_desk.specs.Bounds.{IsWithin, IsFull}
use Rattle.click_desk.specs.declared.logged_router.DeskFault.{DeskFault}
use Rattle.click_desk.specs.declared.logged_router.DeskFault.TheVariants.{HistoryFull}
use Rattle.click_desk.specs.declared.entry.Entry.{Entry}
use Rattle.click_desk.specs.declared.desk_setup.DeskSetup.{DeskSetup}
use Rattle.click_desk.specs.declared.pass_knowledge.PassKnowledge.{PassKnowledge}
use Rattle.click_desk.specs.DeskSetups.{terms_of}
use Rattle.click_router.specs.Polls.{poll}
use Rattle.click_desk.specs.Polls.{Polls, MayTake}
use Rattle.click_packet.specs.Packet.{Packet}
use Rattle.click_desk.specs.History.{entry, entries, Legal}
use Rattle.click_desk.specs.Views.{seated, taken, given, Finds, Takes, Gives, MayGive}
use Rattle.click_desk.specs.SeatStates.{SeatState, IsSeat, Calls as HasCalled, IsRefused}
use Rattle.click_desk.proofs.HistoryBounds.{full_is, is_full}
use Rattle.click_desk.proofs.Histories.{entries_mine, entries_other, all_below}

-- What entering a call does to the logged router and to the seat's list.
pub record Enters (b b2 : LoggedRouterState) (n : ℕ) (calls calls2 : List (Call × Reply)) (call : Call) (result : Result Reply DeskFault) : Type 0 where
  pub options : b2.options ≡ b.options
  pub legal : Legal b2.options.opening b2.entries b2.state
  pub ok : IfOk result (λ reply. (b2.entries ≡ b.entries ++ entry n call reply ∷ []) × (calls2 ≡ calls ++ (call, reply) ∷ []) × IsWithin b2.options.room (length b2.entries))
  pub err : OnErr result ((b2 ≡ b) × (calls2 ≡ calls))
  pub full : (result ≡ Err HistoryFull) ↔ IsFull b.options.room (length b.entries)

-- The history is within the room after a call is entered.
within_at : (t : DeskSetup) (n : ℕ) (calls : List (Call × Reply)) (seen : List Entry) (b b2 : LoggedRouterState) (calls2 : List (Call × Reply)) (call : Call) (result : Result Reply DeskFault)
    → Finds (seated t n calls seen) b → Enters b b2 n calls calls2 call result → IsWithin b2.options.room (length b2.entries)
within_at t n calls seen b b2 calls2 call (Ok reply) finds enters = enters.ok.2
within_at t n calls seen b b2 calls2 call (Err fault) finds enters = subst (λ (x : LoggedRouterState). IsWithin x.options.room (length x.entries)) (sym enters.err.0) finds.2

-- After a call is entered, no entry is of a seat that the desk does not have.
numbered_at : (t : DeskSetup) (n : ℕ) (calls : List (Call × Reply)) (seen : List Entry) (b b2 : LoggedRouterState) (calls2 : List (Call × Reply)) (call : Call) (result : Result Reply DeskFault)
    → n < t.seats → Finds (seated t n calls seen) b → Enters b b2 n calls calls2 call result → (m : ℕ) → t.seats ≤ m → entries b2.entries m ≡ []
numbered_at t n calls seen b b2 calls2 call (Ok reply) made finds enters m above =
    ap (λ l. entries l m) enters.ok.0 ∙ (entries_other b.entries n call reply m (λ (same : m ≡ n). omega arith) ∙ finds.4 m above)
numbered_at t n calls seen b b2 calls2 call (Err fault) made finds enters m above = ap (λ (x : LoggedRouterState). entries x.entries m) enters.err.0 ∙ finds.4 m above

-- The fault of a result, or a default.
abbrev fault_or : DeskFault → Result Reply DeskFault → DeskFault
fault_or other (Ok reply) = other
fault_or other (Err fault) = fault

may_give_at : (t : DeskSetup) (n : ℕ) (calls : List (Call × Reply)) (seen : List Entry) (b b2 : LoggedRouterState) (calls2 : List (Call × Reply)) (call : Call) (result : Result Reply DeskFault)
    → n < t.seats → Finds (seated t n calls seen) b → Enters b b2 n calls calls2 call result → MayGive (taken (seated t n calls seen) b) b2
may_give_at t n calls seen b b2 calls2 call (Ok reply) made finds enters = record {
  opened = refl;
  holds = refl;
  acts = refl;
  makes = refl;
  number = made;
  options = enters.options ∙ finds.0;
  within = enters.ok.2;
  longer = (entry n call reply ∷ [], enters.ok.0);
  one = let more = ap length enters.ok.0 in omega (arith, length-append b.entries (entry n call reply ∷ []));
  others = λ m apart. ap (λ l. entries l m) enters.ok.0 ∙ entries_other b.entries n call reply m apart;
}
may_give_at t n calls seen b b2 calls2 call (Err fault) made finds enters =
    let is : b2 ≡ b = enters.err.0 in record {
      opened = refl;
      holds = refl;
      acts = refl;
      makes = refl;
      number = made;
      options = enters.options ∙ finds.0;
      within = subst (λ (x : LoggedRouterState). IsWithin x.options.room (length x.entries)) (sym is) finds.2;
      longer = ([], ap (λ (x : LoggedRouterState). x.entries) is ∙ sym (append-nil b.entries));
      one = let more = ap (λ (x : LoggedRouterState). length x.entries) is in omega arith;
      others = λ m apart. ap (λ (x : LoggedRouterState). entries x.entries m) is;
    }

pub may_give : (n : ℕ) (calls : List (Call × Reply)) (v v1 : PassKnowledge) (b b2 : LoggedRouterState) (calls2 : List (Call × Reply)) (call : Call) (result : Result Reply DeskFault)
    → v ≡ seated v.options n calls v.seen → n < v.options.seats → Takes v b v1 → Enters b b2 n calls calls2 call result → MayGive v1 b2
may_give n calls v v1 b b2 calls2 call result is made takes enters =
    let s : PassKnowledge = seated v.options n calls v.seen in
    let now : taken s b ≡ v1 = ap (λ y. taken y b) (sym is) ∙ sym takes.0 in
    subst (λ (y : PassKnowledge). MayGive y b2) now (may_give_at v.options n calls v.seen b b2 calls2 call result made (subst (λ (y : PassKnowledge). Finds y b) is takes.1) enters)

-- After the give, the seat's pass is again that of a seat which holds nothing.
pub settled : (n : ℕ) (calls : List (Call × Reply)) (v v1 v2 : PassKnowledge) (b b2 : LoggedRouterState) → v ≡ seated v.options n calls v.seen → Takes v b v1 → Gives v1 b2 v2 → v2 ≡ seated b2.options n (entries b2.entries n) b2.entries
settled n calls v v1 v2 b b2 is takes gives = gives ∙ (ap (λ y. given y b2) takes.0 ∙ ap (λ y. given (taken y b) b2) is)

own_at : (n : ℕ) (calls : List (Call × Reply)) (b b2 : LoggedRouterState) (calls2 : List (Call × Reply)) (call : Call) (result : Result Reply DeskFault) → entries b.entries n ≡ calls → Enters b b2 n calls calls2 call result → entries b2.entries n ≡ calls2
own_at n calls b b2 calls2 call (Ok reply) own enters =
    ap (λ l. entries l n) enters.ok.0 ∙ (entries_mine b.entries n call reply ∙ (ap (λ l. l ++ (call, reply) ∷ []) own ∙ sym enters.ok.1))
own_at n calls b b2 calls2 call (Err fault) own enters = ap (λ (x : LoggedRouterState). entries x.entries n) enters.err.0 ∙ (own ∙ sym enters.err.1)

-- The value of a seat in contracts, from what its pass knows.
abbrev pub sitting : TableId → ℕ → List (Call × Reply) → PassKnowledge → SeatState
sitting table n calls v = record { desk = record { table = table; options = terms_of v.options }; feeds = v.options.feeds; number = n; calls = calls; seen = v.seen }

pub own : (n : ℕ) (calls : List (Call × Reply)) (v v1 : PassKnowledge) (b b2 : LoggedRouterState) (calls2 : List (Call × Reply)) (call : Call) (result : Result Reply DeskFault)
    → v ≡ seated v.options n calls v.seen → Takes v b v1 → Enters b b2 n calls calls2 call result → entries b2.entries n ≡ calls2
own n calls v v1 b b2 calls2 call result is takes enters =
    let finds = subst (λ (y : PassKnowledge). Finds y b) is takes.1 in
    own_at n calls b b2 calls2 call result (finds.3 refl) enters

pub sound : (table : TableId) (n : ℕ) (calls : List (Call × Reply)) (v v1 v2 : PassKnowledge) (b b2 : LoggedRouterState) (calls2 : List (Call × Reply)) (call : Call) (result : Result Reply DeskFault)
    → v ≡ seated v.options n calls v.seen → n < v.options.seats → Takes v b v1 → Enters b b2 n calls calls2 call result → Gives v1 b2 v2
    → (v2 ≡ seated v2.options n calls2 v2.seen) × IsSeat (sitting table n calls2 v2)
sound table n calls v v1 v2 b b2 calls2 call result is made takes enters gives =
    let mine = own n calls v v1 b b2 calls2 call result is takes enters in
    let at : v2 ≡ seated b2.options n calls2 b2.entries = settled n calls v v1 v2 b b2 is takes gives ∙ ap (λ l. seated b2.options n l b2.entries) mine in
    let found = subst (λ (y : PassKnowledge). Finds y b) is takes.1 in
    let options : b2.options ≡ v.options = enters.options ∙ takes.1.0 in
    let here : IsSeat (sitting table n calls2 (seated b2.options n calls2 b2.entries)) = record {
      legal = (b2.state, enters.legal);
      own = mine;
      made = subst (λ (t : DeskSetup). n < t.seats) (sym options) made;
      within = within_at v.options n calls v.seen b b2 calls2 call result found enters;
      numbered = all_below b2.options.seats b2.entries (λ m above. numbered_at v.options n calls v.seen b b2 calls2 call result made found enters m (subst (λ (t : DeskSetup). t.seats ≤ m) options above));
    } in (
      at ∙ ap (λ (y : PassKnowledge). seated y.options n calls2 y.seen) (sym at),
      subst (λ (y : PassKnowledge). IsSeat (sitting table n calls2 y)) (sym at) here,
    )

pub answers : (table table2 : TableId) (n : ℕ) (calls : List (Call × Reply)) (v v1 v2 : PassKnowledge) (b b2 : LoggedRouterState) (calls2 : List (Call × Reply)) (call : Call) (result : Result Reply DeskFault)
    → v ≡ seated v.options n calls v.seen → n < v.options.seats → Takes v b v1 → Enters b b2 n calls calls2 call result → Gives v1 b2 v2
    → IfOk result (λ reply. HasCalled (sitting table n calls v) (sitting table2 n calls2 v2) call reply)
answers table table2 n calls v v1 v2 b b2 calls2 call (Err fault) is made takes enters gives = tt
answers table table2 n calls v v1 v2 b b2 calls2 call (Ok reply) is made takes enters gives =
    let seen : v2.seen ≡ b2.entries = ap (λ (y : PassKnowledge). y.seen) (settled n calls v v1 v2 b b2 is takes gives) in
    let longer = takes.1.1 in record {
      between = longer.0;
      seen = seen ∙ (enters.ok.0 ∙ ap (λ l. l ++ entry n call reply ∷ []) longer.1);
      calls = enters.ok.1;
      sound = (sound table2 n calls v v1 v2 b b2 calls2 call (Ok reply) is made takes enters gives).1;
    }

pub refuses : (table table2 : TableId) (n : ℕ) (calls : List (Call × Reply)) (v v1 v2 : PassKnowledge) (b b2 : LoggedRouterState) (calls2 : List (Call × Reply)) (call : Call) (result : Result Reply DeskFault)
    → v ≡ seated v.options n calls v.seen → n < v.options.seats → Takes v b v1 → Enters b b2 n calls calls2 call result → Gives v1 b2 v2
    → IfErr result (λ fault. IsRefused (sitting table n calls v) (sitting table2 n calls2 v2) fault)
refuses table table2 n calls v v1 v2 b b2 calls2 call (Ok reply) is made takes enters gives = tt
refuses table table2 n calls v v1 v2 b b2 calls2 call (Err fault) is made takes enters gives =
    let at = settled n calls v v1 v2 b b2 is takes gives in
    let seen : v2.seen ≡ b2.entries = ap (λ (y : PassKnowledge). y.seen) at in
    let same : b2.entries ≡ b.entries = ap (λ (x : LoggedRouterState). x.entries) enters.err.0 in
    let options : v2.options ≡ b.options = ap (λ (y : PassKnowledge). y.options) at ∙ enters.options in
    let longer = takes.1.1 in record {
      seen = (longer.0, seen ∙ (same ∙ longer.1));
      calls = enters.err.1;
      full = (
        (λ e.
            let full = enters.full.0 (ap (λ f. Err f) e) in
            ap (λ (t : DeskSetup). t.room) options ∙ (full_is b.options.room (length b.entries) takes.1.2 full ∙ ap (λ (l : List Entry). Some (length l)) (sym (seen ∙ same)))),
        (λ many.
            let full = ap (λ (t : DeskSetup). t.room) (sym options) ∙ (many ∙ ap (λ (l : List Entry). Some (length l)) (seen ∙ same)) in
            ap (fault_or fault) (enters.full.1 (is_full b.options.room (length b.entries) full))),
      );
      sound = (sound table2 n calls v v1 v2 b b2 calls2 call (Err fault) is made takes enters gives).1;
    }

-- What entering a Poll does to the logged router and to the seat's list.
pub record EntersPoll (b b2 : LoggedRouterState) (n : ℕ) (calls calls2 : List (Call × Reply)) (device : List ℕ) (limit : ℕ) (result : Result Reply DeskFault) : Type 0 where
  pub options : b2.options ≡ b.options
  pub legal : Legal b2.options.opening b2.entries b2.state
  pub ok : IfOk result (λ reply. (taken : List Packet) × MayTake b2.options.feeds device limit taken reply × (b2.entries ≡ b.entries ++ entry n (poll device taken) reply ∷ []) × (calls2 ≡ calls ++ (poll device taken, reply) ∷ []) × IsWithin b2.options.room (length b2.entries))
  pub err : OnErr result ((b2 ≡ b) × (calls2 ≡ calls))
  pub full : (result ≡ Err HistoryFull) ↔ IsFull b.options.room (length b.entries)

-- Entering a Poll is entering some call, which is a Poll if it succeeded.
abbrev pub SomeCall : LoggedRouterState → LoggedRouterState → ℕ → List (Call × Reply) → List (Call × Reply) → List ℕ → ℕ → Result Reply DeskFault → Type 0
SomeCall b b2 n calls calls2 device limit result =
    (call : Call) × Enters b b2 n calls calls2 call result × IfOk result (λ reply. (taken : List Packet) × (call ≡ poll device taken) × MayTake b2.options.feeds device limit taken reply)

pub as_call : (b b2 : LoggedRouterState) (n : ℕ) (calls calls2 : List (Call × Reply)) (device : List ℕ) (limit : ℕ) (result : Result Reply DeskFault)
    → EntersPoll b b2 n calls calls2 device limit result → SomeCall b b2 n calls calls2 device limit result
as_call b b2 n calls calls2 device limit (Ok reply) e =
    (poll device e.ok.0, record { options = e.options; legal = e.legal; ok = (e.ok.2, e.ok.3, e.ok.4); err = e.err; full = e.full }, (e.ok.0, refl, e.ok.1))
as_call b b2 n calls calls2 device limit (Err fault) e =
    (poll device [], record { options = e.options; legal = e.legal; ok = tt; err = e.err; full = e.full }, tt)

pub polls : (table table2 : TableId) (n : ℕ) (calls : List (Call × Reply)) (v v1 v2 : PassKnowledge) (b b2 : LoggedRouterState) (calls2 : List (Call × Reply)) (device : List ℕ) (limit : ℕ) (result : Result Reply DeskFault)
    → v ≡ seated v.options n calls v.seen → n < v.options.seats → Takes v b v1 → SomeCall b b2 n calls calls2 device limit result → Gives v1 b2 v2
    → IfOk result (λ reply. Polls (sitting table n calls v) (sitting table2 n calls2 v2) device limit reply)
polls table table2 n calls v v1 v2 b b2 calls2 device limit (Err fault) is made takes some gives = tt
polls table table2 n calls v v1 v2 b b2 calls2 device limit (Ok reply) is made takes some gives =
    let call = some.0 in
    let options : v2.options ≡ b2.options = ap (λ (y : PassKnowledge). y.options) (settled n calls v v1 v2 b b2 is takes gives) in
    let all = answers table table2 n calls v v1 v2 b b2 calls2 call (Ok reply) is made takes some.1 gives in record {
      taken = some.2.0;
      may = subst (λ (t : DeskSetup). MayTake t.feeds device limit some.2.0 reply) (sym options) some.2.2;
      calls = subst (λ (x : Call). HasCalled (sitting table n calls v) (sitting table2 n calls2 v2) x reply) some.2.1 all;
    }

-- What entering a Round does to the logged router and to the seat's list.
pub record EntersRound (b b2 : LoggedRouterState) (n : ℕ) (calls calls2 : List (Call × Reply)) (result : Result ℕ DeskFault) : Type 0 where
  pub options : b2.options ≡ b.options
  pub legal : Legal b2.options.opening b2.entries b2.state
  pub ok : IfOk result (λ count. (b2.entries ≡ b.entries ++ entry n call.Round (reply.Worked count) ∷ []) × (calls2 ≡ calls ++ (call.Round, reply.Worked count) ∷ []) × IsWithin b2.options.room (length b2.entries))
  pub err : OnErr result ((b2 ≡ b) × (calls2 ≡ calls))
  pub full : (result ≡ Err HistoryFull) ↔ IsFull b.options.room (length b.entries)

-- The result of a Round as the result of a call.
abbrev pub worked : Result ℕ DeskFault → Result Reply DeskFault
worked (Ok count) = Ok (reply.Worked count)
worked (Err fault) = Err fault

-- Entering a Round is entering the call Round.
pub as_round : (b b2 : LoggedRouterState) (n : ℕ) (calls calls2 : List (Call × Reply)) (result : Result ℕ DeskFault)
    → EntersRound b b2 n calls calls2 result → Enters b b2 n calls calls2 call.Round (worked result)
as_round b b2 n calls calls2 (Ok count) e = record { options = e.options; legal = e.legal; ok = e.ok; err = e.err; full = (λ is. absurd cc, λ full. let is = e.full.1 full in absurd cc) }
as_round b b2 n calls calls2 (Err fault) e = record {
  options = e.options;
  legal = e.legal;
  ok = e.ok;
  err = e.err;
  full = (
    λ is. let same : fault ≡ HistoryFull = cc in e.full.0 (ap (λ f. Err f) same),
    λ full. let is = e.full.1 full in let same : fault ≡ HistoryFull = cc in ap (λ f. Err f) same,
  );
}

pub on_worked : (result : Result ℕ DeskFault) (P : Reply → Type 0) → IfOk (worked result) P → IfOk result (λ count. P (reply.Worked count))
on_worked (Ok count) P h = h
on_worked (Err fault) P h = tt

pub on_refused : (result : Result ℕ DeskFault) (P : DeskFault → Type 0) → IfErr (worked result) P → IfErr result P
on_refused (Ok count) P h = tt
on_refused (Err fault) P h = h
