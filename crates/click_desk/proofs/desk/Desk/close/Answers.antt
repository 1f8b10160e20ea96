use Rattle.std.proofs.Common.{◌≡◌, ◌<◌, ◌≤◌, ℕ, List, [], map, slice_index_or, true≢false, length, is_some, ap, ◌∙◌, sym, subst, refl}
use Rattle.std.specs.List.{All}
use Rattle.std.proofs.lemmas.List.{with_items_is}
use Rattle.click_router.specs.State.{RouterState}
use Rattle.click_desk.specs.Bounds.{IsWithin}
use Rattle.click_desk.specs.declared.entry.Entry.{Entry}
use Rattle.click_desk.specs.declared.options.DeskOptions.{DeskOptions}
use Rattle.click_desk.specs.History.{Legal, entries, installs}
use Rattle.click_views.specs.Showing.{Showing}
use Rattle.click_rings.specs.Feeds.{ConsumerState, name_of, have_distinct_devices}
use Rattle.click_desk.specs.declared.desk_setup.DeskSetup.{DeskSetup}
use Rattle.click_desk.specs.DeskSetups.{setup_of, terms_of}
use Rattle.click_desk.specs.Polls.{IsPolled}
use Rattle.click_desk.specs.SeatStates.{SeatState, DeskName, new_seat}
use Rattle.click_desk.specs.Closing.{IsEachOnce, IsEntered}
use Rattle.click_desk.proofs.LawfulHistories.{each_lawful}
use Rattle.click_desk.proofs.SeatedEntries.{some_seat, each_seated}
use Rattle.click_desk.proofs.desk.Desk.close.Goals as goal

pub returns-then-not-is_each_once-clause-refused :
    goal.returns-then-not-is_each_once-clause-refused
returns-then-not-is_each_once-clause-refused g c = (
  (λ once.
      let n : c.self.inside.options.seats ≡ c.args.self.options.seats = ap (λ (d : DeskName). d.options.seats) c.self.view_is in
      let here : IsEachOnce c.self.inside.options.seats c.as_slice.result.now = subst (λ (y : ℕ × List SeatState). IsEachOnce y.0 y.1) (λ i. (sym n i, sym c.as_slice.ensures.value i)) once in
      absurd (true≢false (sym (c.is_each_once.ensures.1 here) ∙ c.if-not-is_each_once.true))),
  refl,
  refl,
  refl,
)

pub take_last-logged_router-requires-clause-some : goal.take_last-logged_router-requires-clause-some
take_last-logged_router-requires-clause-some g c =
    let once : IsEachOnce c.self.inside.options.seats c.as_slice.result.now = c.is_each_once.ensures.0 c.if-not-is_each_once.false in
    subst (λ (l : List SeatState). 0 < length l) (c.as_slice.ensures.value ∙ sym c.as_mut_slice.ensures.value) (some_seat c.self.inside.options.seats c.as_slice.result.now c.self.invariant.1 once)

pub take_last-logged_router-requires-clause-seats : goal.take_last-logged_router-requires-clause-seats
take_last-logged_router-requires-clause-seats g c =
    let all : All (λ s. s.desk ≡ c.args.self) c.as_mut_slice.result.now = subst (λ (l : List SeatState). All (λ s. s.desk ≡ c.args.self) l) (sym c.as_mut_slice.ensures.value) c.requires in
    λ k d below. ap (λ (x : DeskName). x.table) (all k d below) ∙ ap (λ (x : DeskName). x.table) (sym c.self.view_is)

pub returns-clause-ok : goal.returns-clause-ok
returns-clause-ok g c =
    let now : c.as_mut_slice.result.now ≡ c.args.seats.items = c.as_mut_slice.ensures.value in
    let n : c.self.inside.options.seats ≡ c.args.self.options.seats = ap (λ (d : DeskName). d.options.seats) c.self.view_is in
    let here : IsEachOnce c.self.inside.options.seats c.as_slice.result.now = c.is_each_once.ensures.0 c.if-not-is_each_once.false in
    let once : IsEachOnce c.args.self.options.seats c.args.seats.items = subst (λ (y : ℕ × List SeatState). IsEachOnce y.0 y.1) (λ i. (n i, c.as_slice.ensures.value i)) here in
    let some : 0 < length c.args.seats.items = subst (λ (l : List SeatState). 0 < length l) c.as_slice.ensures.value (some_seat c.self.inside.options.seats c.as_slice.result.now c.self.invariant.1 here) in
    let p = c.into_parts-options.ensures.parts in
    let t = c.take_last-logged_router.ensures in
    let logged_router = c.take_last-logged_router.result in
    let r = c.into_parts-options.result in
    let blank : SeatState = new_seat c.args.self [] 0 in
    let known : (s : SeatState) → (slice_index_or c.args.seats.items 0 s).desk.options ≡ terms_of logged_router.options = λ s. subst (λ (l : List SeatState). (slice_index_or l 0 s).desk.options ≡ terms_of logged_router.options) now (t.options s) in
    let fed : (s : SeatState) → (slice_index_or c.args.seats.items 0 s).feeds ≡ logged_router.options.feeds = λ s. subst (λ (l : List SeatState). (slice_index_or l 0 s).feeds ≡ logged_router.options.feeds) now (t.feeds s) in
    let options : terms_of logged_router.options ≡ c.args.self.options = sym (known blank) ∙ ap (λ (x : DeskName). x.options) (c.requires 0 blank some) in
    let desk_setup : logged_router.options ≡ setup_of r.0 (map name_of r.3.items) = c.into_parts-options.ensures.options in
    let seats : c.take_last-logged_router.new.seats ≡ c.args.seats.items = t.same ∙ now in
    let entered : All (IsEntered logged_router.entries) c.as_mut_slice.result.now = t.entered in
    let opening : r.0.opening ≡ logged_router.options.opening = ap (λ (y : DeskSetup). y.opening) (sym desk_setup) in
    let legal : Legal r.0.opening r.1.items r.2 = subst (λ (y : List ℕ × List Entry × RouterState). Legal y.0 y.1 y.2) (λ i. (sym opening i, sym p.0 i, sym p.1 i)) c.into_parts-options.ensures.legal in
    let none : (k : ℕ) → c.args.self.options.seats ≤ k → entries r.1.items k ≡ [] = λ k above. ap (λ l. entries l k) p.0 ∙ t.numbered k (subst (λ (x : DeskOptions). x.seats ≤ k) (sym options) above) in (
      once,
      record {
        seats_are = with_items_is c.args.seats c.take_last-logged_router.new.seats (ap length seats ∙ sym c.args.seats.ok.0) ∙ seats;
        opening = opening ∙ ap (λ (y : DeskOptions). y.opening) options;
        kept = c.into_parts-options.ensures.kept ∙ ap (λ (y : DeskOptions). is_some y.room) options;
        replayed = legal;
        lawful = each_lawful r.0.opening r.1.items r.2 legal;
        within = subst (λ (y : List Entry × DeskOptions). IsWithin y.1.room (length y.0)) (λ i. (sym p.0 i, options i)) t.within;
        entered = subst (λ (y : List Entry × List SeatState). All (IsEntered y.0) y.1) (λ i. (sym p.0 i, now i)) entered;
        numbered = each_seated c.args.self.options.seats c.args.seats.items r.1.items once none;
        feeds = λ s. fed s ∙ ap (λ (y : DeskSetup). y.feeds) desk_setup;
        polled = subst (λ (y : List Entry × List ConsumerState). IsPolled y.0 y.1) (λ i. (sym p.0 i, sym p.2 i)) c.into_parts-options.ensures.polled;
        origin = ap (λ (s : Showing (List ℕ)). s.board) c.into_parts-options.ensures.published ∙ ap (λ (y : DeskOptions). y.origin) options;
      },
    )

pub invariant_of-result : goal.invariant_of-result
invariant_of-result g c =
    let p = c.into_parts-options.ensures.parts in
    let r = c.into_parts-options.result in
    let opening : r.0.opening ≡ c.take_last-logged_router.result.options.opening = ap (λ (y : DeskSetup). y.opening) (sym c.into_parts-options.ensures.options) in (
      subst (λ (y : List Entry × List ConsumerState). IsPolled y.0 y.1) (λ i. (sym p.0 i, sym p.2 i)) c.into_parts-options.ensures.polled,
      ap (λ (l : List ConsumerState). have_distinct_devices (map name_of l)) p.2 ∙ c.into_parts-options.ensures.apart,
      ap (λ (s : Showing (List ℕ)). s.list) c.into_parts-options.ensures.published ∙ (λ i. installs (sym opening i) (sym p.0 i)),
    )
