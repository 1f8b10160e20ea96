-- Seats that belong to a desk.
use Rattle.std.proofs.Common.{◌≡◌, ℕ, ◌<◌, List, [], ◌∷◌, ◌++◌, true, length, map, slice_index_or, sym, ap, ◌∙◌, subst}
use Rattle.std.specs.List.{All, remove}
use Rattle.std.specs.Prelude.{slice_set}
use Rattle.std.proofs.lemmas.List.{set-get_or}
use Rattle.std.proofs.lemmas.List.Elements.{All-push, All-set}
use Rattle.click_rings.specs.Feeds.{FeedName, ConsumerState, name_of, have_distinct_devices}
use Rattle.click_desk.specs.SeatStates.{DeskName, SeatState}
use Rattle.click_player.specs.Belonging.{HaveRings, Belongs}
use Rattle.click_player.proofs.Rings.{own_rings, all_remove}

-- A seat of a desk that was just opened belongs to it.
pub new_seat_belongs : (desk : DeskName) (drivers : List FeedName) (s : SeatState) → s.desk ≡ desk → s.feeds ≡ drivers → have_distinct_devices drivers ≡ true → Belongs desk drivers s
new_seat_belongs desk drivers s here fed apart = record {
  at_desk = here;
  apart = ap have_distinct_devices fed ∙ apart;
  rings = subst (λ fs. HaveRings drivers fs) (sym fed) (own_rings drivers apart);
}

-- A seat still belongs to its desk after a call.
pub same_seat : (desk : DeskName) (drivers : List FeedName) (old new : SeatState) → new.desk ≡ old.desk → new.feeds ≡ old.feeds → Belongs desk drivers old → Belongs desk drivers new
same_seat desk drivers old new here fed b = record {
  at_desk = here ∙ b.at_desk;
  apart = ap have_distinct_devices fed ∙ b.apart;
  rings = subst (λ fs. HaveRings drivers fs) (sym fed) b.rings;
}

-- A seat still belongs to its desk if a driver is removed.
pub fewer_drivers : (desk : DeskName) (drivers : List FeedName) (n : ℕ) (s : SeatState) → Belongs desk drivers s → Belongs desk (remove drivers n) s
fewer_drivers desk drivers n s b = record {
  at_desk = b.at_desk;
  apart = b.apart;
  rings = all_remove (λ (d : FeedName). All (λ (f : FeedName). f.device ≡ d.device → f.ring ≡ d.ring) s.feeds) drivers n b.rings;
}

-- A seat still belongs to its desk if the removed driver is appended again.
pub driver_back : (desk : DeskName) (drivers : List FeedName) (n : ℕ) (d : FeedName) (s : SeatState) → n < length drivers → d ≡ slice_index_or drivers n d → Belongs desk drivers s
    → Belongs desk (remove drivers n ++ d ∷ []) s
driver_back desk drivers n d s below is b = record {
  at_desk = b.at_desk;
  apart = b.apart;
  rings = All-push (λ (x : FeedName). All (λ (f : FeedName). f.device ≡ x.device → f.ring ≡ x.ring) s.feeds) (remove drivers n) d
      (all_remove (λ (x : FeedName). All (λ (f : FeedName). f.device ≡ x.device → f.ring ≡ x.ring) s.feeds) drivers n b.rings)
      (subst (λ (x : FeedName). All (λ (f : FeedName). f.device ≡ x.device → f.ring ≡ x.ring) s.feeds) (sym is) (b.rings n d below));
}

-- Seats of equal desks, in equal lists, belong to both.
pub same_desk : (old new : DeskName) (drivers : List FeedName) (before after : List SeatState) → new ≡ old → after ≡ before → All (Belongs old drivers) before → All (Belongs new drivers) after
same_desk old new drivers before after here same all = subst (λ (l : List SeatState). All (Belongs new drivers) l) (sym same) (subst (λ (d : DeskName). All (Belongs d drivers) before) (sym here) all)

-- Seats still belong to their desk with equal drivers.
pub same_drivers : (desk : DeskName) (old new : List FeedName) (seats : List SeatState) → new ≡ old → All (Belongs desk old) seats → All (Belongs desk new) seats
same_drivers desk old new seats same all = subst (λ (l : List FeedName). All (Belongs desk l) seats) (sym same) all

-- If a book has the seat's feeds, the ends of the drivers' feeds have the rings of the book.
pub closed_rings : (desk : DeskName) (drivers finished : List FeedName) (ts : List ConsumerState) (s : SeatState) → finished ≡ drivers → s.feeds ≡ map name_of ts → Belongs desk drivers s → HaveRings finished (map name_of ts)
closed_rings desk drivers finished ts s all fed b = subst (λ (l : List FeedName). HaveRings finished l) fed (subst (λ (l : List FeedName). HaveRings l s.feeds) (sym all) b.rings)

-- If a book has the seat's feeds, they have distinct devices.
pub closed_apart : (desk : DeskName) (drivers : List FeedName) (ts : List ConsumerState) (s : SeatState) → s.feeds ≡ map name_of ts → Belongs desk drivers s → have_distinct_devices (map name_of ts) ≡ true
closed_apart desk drivers ts s fed b = sym (ap have_distinct_devices fed) ∙ b.apart

-- All seats still belong to their desk after a call by one of them.
pub seat_called : (desk : DeskName) (drivers : List FeedName) (seats : List SeatState) (n : ℕ) (old new : SeatState) → n < length seats → old ≡ slice_index_or seats n old → new.desk ≡ old.desk → new.feeds ≡ old.feeds
    → All (Belongs desk drivers) seats → All (Belongs desk drivers) (slice_set seats n new)
seat_called desk drivers seats n old new below is here fed all =
    All-set (λ (s : SeatState). Belongs desk drivers s) seats n new (same_seat desk drivers old new here fed (subst (λ (s : SeatState). Belongs desk drivers s) (sym is) (all n old below))) all

-- The other seats still belong to their desk if one is removed.
pub seat_away : (desk : DeskName) (drivers : List FeedName) (seats gone : List SeatState) (n : ℕ) → gone ≡ remove seats n → All (Belongs desk drivers) seats → All (Belongs desk drivers) gone
seat_away desk drivers seats gone n gone_is all =
    subst (λ (l : List SeatState). All (Belongs desk drivers) l) (sym gone_is) (all_remove (λ (s : SeatState). Belongs desk drivers s) seats n all)

-- All seats still belong to their desk if the removed one is appended again, after its calls.
pub seat_back : (desk : DeskName) (drivers : List FeedName) (seats gone after : List SeatState) (n : ℕ) (old new : SeatState) → n < length seats → old ≡ slice_index_or seats n old → gone ≡ remove seats n → new.desk ≡ old.desk
    → new.feeds ≡ old.feeds → after ≡ gone ++ new ∷ [] → All (Belongs desk drivers) seats → All (Belongs desk drivers) after
seat_back desk drivers seats gone after n old new below is gone_is here fed after_is all =
    subst (λ (l : List SeatState). All (Belongs desk drivers) l) (sym after_is)
    (All-push (λ (s : SeatState). Belongs desk drivers s) gone new (seat_away desk drivers seats gone n gone_is all)
    (same_seat desk drivers old new here fed (subst (λ (s : SeatState). Belongs desk drivers s) (sym is) (all n old below))))

-- All seats still belong to their desk if a driver is removed.
pub driver_away : (desk : DeskName) (drivers gone : List FeedName) (seats : List SeatState) (n : ℕ) → gone ≡ remove drivers n → All (Belongs desk drivers) seats → All (Belongs desk gone) seats
driver_away desk drivers gone seats n gone_is all = λ k s there.
    subst (λ (l : List FeedName). Belongs desk l (slice_index_or seats k s)) (sym gone_is) (fewer_drivers desk drivers n (slice_index_or seats k s) (all k s there))

-- All seats still belong to their desk if the removed driver is appended again.
pub driver_again : (desk : DeskName) (drivers gone after : List FeedName) (seats : List SeatState) (n : ℕ) (d y : FeedName) → n < length drivers → d ≡ slice_index_or drivers n d → gone ≡ remove drivers n → y ≡ d → after ≡ gone ++ y ∷ []
    → All (Belongs desk drivers) seats → All (Belongs desk after) seats
driver_again desk drivers gone after seats n d y below is gone_is same after_is all = λ k s there.
    let whole : after ≡ remove drivers n ++ d ∷ [] = after_is ∙ ap (λ (l : List FeedName). l ++ y ∷ []) gone_is ∙ ap (λ (x : FeedName). remove drivers n ++ x ∷ []) same in
    subst (λ (l : List FeedName). Belongs desk l (slice_index_or seats k s)) (sym whole) (driver_back desk drivers n d (slice_index_or seats k s) below is (all k s there))

-- The list of drivers is unchanged if one of them put a packet.
pub drivers_same : (drivers : List FeedName) (n : ℕ) (d y : FeedName) → d ≡ slice_index_or drivers n d → y ≡ d → slice_set drivers n y ≡ drivers
drivers_same drivers n d y is same = ap (λ (x : FeedName). slice_set drivers n x) (same ∙ is) ∙ set-get_or drivers n d
