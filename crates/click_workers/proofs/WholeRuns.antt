-- What whole runs leave.
use Rattle.std.proofs.Common.{◌≡◌, ◌↔◌, ◌⊎◌, ℕ, ◌+◌, ◌==◌, ◌<◌, ◌≤◌, inl, inr, Bool, true, false, true≢false, cond, List, [], ◌∷◌, map, length, Option, Some, None, is_some, count_by, refl, sym, ap, ◌∙◌, subst, arith}
use Rattle.std.proofs.lemmas.Bool.Decides.{nat_tests}
use Rattle.std.specs.List.{All}
use Rattle.std.proofs.lemmas.List.Elements.{All-head, All-tail}
use Rattle.std.proofs.lemmas.List.Sums.{sum_by-cons}
use Rattle.click_router.specs.declared.fault.ConfigFault.{ConfigFault}
use Rattle.click_desk.specs.BookState.{BookState}
use Rattle.click_desk.specs.History.{Legal, entries, entry}
use Rattle.click_desk.specs.Openings.{IsViewFault}
use Rattle.click_desk.specs.Closing.{IsEntered, IsEachOnce, Closes}
use Rattle.click_desk.specs.SeatStates.{DeskName, SeatState, new_seat}
use Rattle.click_rings.specs.Feeds.{ConsumerState, FeedName, name_of}
use Rattle.click_workers.specs.Seats.{IsOf}
use Rattle.click_desk.specs.declared.entry.Entry.{Entry}
use Rattle.click_desk.specs.declared.open.OpenFault.{OpenFault}
use Rattle.click_desk.specs.declared.open.OpenFault.TheVariants as told
use Rattle.click_workers.specs.declared.runs.RunFault.{RunFault}
use Rattle.click_workers.specs.declared.runs.RunFault.TheVariants as run
use Rattle.click_workers.specs.Runs.{Headline, HeadlineWith, IsOpenedFor, IsTrueFault, IsLate, IsViewAsked, entries_of, views_for}

none-named : (consumers : List ConsumerState) → map name_of consumers ≡ [] → consumers ≡ []
none-named [] e = refl
none-named (t ∷ consumers) e = absurd (let n : length (map name_of (t ∷ consumers)) ≡ 0 = ap length e in omega arith)

-- The book of a desk whose seats have no feeds has no feeds.
no-feeds : (desk : DeskName) (feeds : List FeedName) (seats : List SeatState) (book : BookState) → 0 < length seats → All (IsOf desk feeds) seats → Closes desk seats book → feeds ≡ [] → book.consumers ≡ []
no-feeds desk feeds seats book some all closes none =
    let blank : SeatState = new_seat desk [] 0 in
    none-named book.consumers (sym (closes.feeds blank) ∙ (all 0 blank some).1 ∙ none)

-- The book of a closed desk satisfies the headline for the text that the desk was opened with.
pub headline-of : (feeds : List FeedName) (room : Option ℕ) (text : List ℕ) (n : ℕ) (desk : DeskName) (seats : List SeatState) (book : BookState) → IsOpenedFor room text n desk → 0 < length seats
    → All (IsOf desk feeds) seats → IsEachOnce desk.options.seats seats → Closes desk seats book → HeadlineWith feeds room text n book
headline-of feeds room text n desk seats book options some all once closes = record {
  opening = closes.opening ∙ options.0;
  kept = closes.kept ∙ ap (λ (r : Option ℕ). is_some r) options.1;
  replayed = closes.replayed;
  lawful = closes.lawful;
  entered = subst (λ (l : List SeatState). All (IsEntered book.entries) l) (sym closes.seats_are) closes.entered;
  once = subst (λ m. IsEachOnce m book.seats) options.2
      (subst (λ (l : List SeatState). IsEachOnce desk.options.seats l) (sym closes.seats_are) once);
  numbered = subst (λ (l : List SeatState). All (λ e. count_by (λ s. s.number == e.seat) l ≡ 1) book.entries) (sym closes.seats_are) closes.numbered;
  no_feeds = no-feeds desk feeds seats book some all closes;
  options = subst (λ (l : List SeatState). All (λ (s : SeatState). IsOpenedFor room text n s.desk × (s.feeds ≡ feeds)) l) (sym closes.seats_are)
      (λ k s below. (subst (λ (d : DeskName). IsOpenedFor room text n d) (sym (all k s below).0) options, (all k s below).1));
}

-- If opening the desk returns a fault of the configuration, it is the first fault of the text. The
-- run returns the same.
pub true-fault : (seats views : ℕ) (text : List ℕ) (fault : OpenFault) (result : RunFault) → ((f : ConfigFault) → (result ≡ run.Config f) ↔ (fault ≡ told.Config f))
    → IsViewFault seats [] views text fault → IsTrueFault text result
true-fault seats views text fault (run.Config f) same why =
    let h : IsViewFault seats [] views text (told.Config f) = subst (λ x. IsViewFault seats [] views text x) ((same f).0 refl) why in
    (h.1.1, h.1.2)
true-fault seats views text fault run.NoMemory same why = tt
true-fault seats views text fault (run.Close code) same why = tt
true-fault seats views text fault run.NoView same why = tt

-- With 1 to 256 seats, no inlets and at most one view, the number of these is not the fault.
pub late-fault : (seats views : ℕ) (text : List ℕ) (fault : OpenFault) → 0 < seats → seats ≤ 256 → views ≤ 1 → IsViewFault seats [] views text fault → IsLate fault
late-fault seats views text told.SeatCount some within few (inl none) = absurd (omega arith)
late-fault seats views text told.SeatCount some within few (inr many) = absurd (omega arith)
late-fault seats views text told.DeviceTwice some within few why = absurd (true≢false why.2)
late-fault seats views text told.InletCount some within few why = let h = why.3 in absurd (omega arith)
late-fault seats views text (told.Config f) some within few why = tt
late-fault seats views text told.NoMemory some within few why = tt
late-fault seats views text told.ViewCount some within few why = let h = why.1 in absurd (omega arith)
late-fault seats views text told.NoView some within few why = tt

-- Does what `late-fault` does, for a run that may have been out of memory before it opened the
-- desk.
pub late-begun : (seats views : ℕ) (text : List ℕ) (fault : OpenFault) → 0 < seats → seats ≤ 256 → views ≤ 1 → (fault ≡ told.NoMemory) ⊎ IsViewFault seats [] views text fault → IsLate fault
late-begun seats views text fault some within few (inl none) = subst IsLate (sym none) tt
late-begun seats views text fault some within few (inr why) = late-fault seats views text fault some within few why

pub true-begun : (seats views : ℕ) (text : List ℕ) (fault : OpenFault) (result : RunFault) → ((f : ConfigFault) → (result ≡ run.Config f) ↔ (fault ≡ told.Config f))
    → (fault ≡ told.NoMemory) ⊎ IsViewFault seats [] views text fault → IsTrueFault text result
true-begun seats views text fault (run.Config f) same (inl none) = absurd (let is : told.Config f ≡ told.NoMemory = sym ((same f).0 refl) ∙ none in cc)
true-begun seats views text fault run.NoMemory same (inl none) = tt
true-begun seats views text fault (run.Close code) same (inl none) = tt
true-begun seats views text fault run.NoView same (inl none) = tt
true-begun seats views text fault result same (inr why) = true-fault seats views text fault result same why

-- The fault is `NoView` only if a check was asked for.
pub view-begun : (seats : ℕ) (name : Option (List ℕ)) (text : List ℕ) (fault : OpenFault) (result : RunFault) → ((result ≡ run.NoView) ↔ (fault ≡ told.NoView))
    → (fault ≡ told.NoMemory) ⊎ IsViewFault seats [] (views_for name) text fault → IsViewAsked name result
view-begun seats (Some name) text fault result same why = tt
view-begun seats None text fault (run.Config f) same why = tt
view-begun seats None text fault run.NoMemory same why = tt
view-begun seats None text fault (run.Close code) same why = tt
view-begun seats None text fault run.NoView same (inl none) = absurd (let is : told.NoView ≡ told.NoMemory = sym (same.0 refl) ∙ none in cc)
view-begun seats None text fault run.NoView same (inr why) =
    let h : IsViewFault seats [] 0 text told.NoView = subst (λ x. IsViewFault seats [] 0 text x) (same.0 refl) why in
    let some : 0 < 0 = h.3 in
    absurd (omega arith)

-- A check needs at most one view.
pub few-views : (name : Option (List ℕ)) → views_for name ≤ 1
few-views None = omega arith
few-views (Some name) = omega arith

is-so : (b : Bool) (n : ℕ) → n ≡ cond b 1 0 + 0 → n ≡ 1 → b ≡ true
is-so true n e h = refl
is-so false n e h = absurd (omega (arith, e, h))

-- An entry of a history whose only seat is `s` has the number of `s`.
borne : (s : SeatState) (at : ℕ) → count_by (λ (t : SeatState). t.number == at) (s ∷ []) ≡ 1 → at ≡ s.number
borne s at one =
    let same : (s.number == at) ≡ true =
    is-so (s.number == at) (count_by (λ (t : SeatState). t.number == at) (s ∷ [])) (sum_by-cons (λ (t : SeatState). cond (t.number == at) 1 0) s []) one in
    grind (arith, nat_tests, same)

-- If all entries are of one seat, they are its calls with its number.
own-alone : (s : SeatState) (es : List Entry) → All (λ e. count_by (λ (t : SeatState). t.number == e.seat) (s ∷ []) ≡ 1) es
    → es ≡ entries_of s.number (entries es s.number)
own-alone s [] all = refl
own-alone s (e ∷ es) all =
    let is : e.seat ≡ s.number = borne s e.seat (All-head (λ (e : Entry). count_by (λ (t : SeatState). t.number == e.seat) (s ∷ []) ≡ 1) e es all) in
    let same : (e.seat == s.number) ≡ true = grind (arith, nat_tests) in
    let more : entries (e ∷ es) s.number ≡ (e.call, e.reply) ∷ entries es s.number = rw same refl in
    let head : e ≡ entry s.number e.call e.reply = ap (λ n. entry n e.call e.reply) is in
    ap (λ (x : Entry). x ∷ es) head
    ∙ ap (λ l. entry s.number e.call e.reply ∷ l) (own-alone s es (All-tail (λ (e : Entry). count_by (λ (t : SeatState). t.number == e.seat) (s ∷ []) ≡ 1) e es all))
    ∙ ap (entries_of s.number) (sym more)

-- The entries of a book with one seat are exactly the calls of the seat, in order, as one thread
-- makes them from the text.
pub one-seat : (text : List ℕ) (book : BookState) (s : SeatState) → Headline text 1 book → book.seats ≡ s ∷ []
    → (book.entries ≡ entries_of s.number s.calls) × Legal text (entries_of s.number s.calls) book.router
one-seat text book s h is =
    let entered = (All-head (IsEntered book.entries) s [] (subst (λ (l : List SeatState). All (IsEntered book.entries) l) is h.entered)).0 in
    let numbered = subst (λ (l : List SeatState). All (λ e. count_by (λ s. s.number == e.seat) l ≡ 1) book.entries) is h.numbered in
    let whole : book.entries ≡ entries_of s.number s.calls = own-alone s book.entries numbered ∙ ap (entries_of s.number) entered in
    (whole, subst (λ (l : List Entry). Legal text l book.router) whole (subst (λ t. Legal t book.entries book.router) h.opening h.replayed))
