-- The values of desks and seats in contracts.
use Rattle.std.specs.Prelude.{◌≡◌, ◌↔◌, ℕ, zero, suc, ◌<◌, List, [], ◌∷◌, ◌++◌, length, Some}
use Rattle.std.specs.List.{All}
use Rattle.atomic_table.specs.Seated.{TableId}
use Rattle.click_rings.specs.Feeds.{FeedName}
use Rattle.click_router.specs.declared.call.Call.{Call}
use Rattle.click_router.specs.declared.call.Reply.{Reply}
use Rattle.click_desk.specs.declared.entry.Entry.{Entry}
use Rattle.click_desk.specs.declared.options.DeskOptions.{DeskOptions}
use Rattle.click_desk.specs.declared.logged_router.DeskFault.{DeskFault}
use Rattle.click_desk.specs.declared.logged_router.DeskFault.TheVariants.{HistoryFull}
use Rattle.click_desk.specs.Bounds.{IsWithin}
use Rattle.click_desk.specs.History.{entry, IsLegal, entries, StartsWith}

-- The identity of a desk: its queue, and what it was opened with. No two desks have the same one.
pub record DeskName : Type 0 where
  pub table : TableId
  pub options : DeskOptions

-- A seat: its desk with the desk's feeds, its number, its calls with their replies, and the part of
-- the history that it has seen.
pub record SeatState : Type 0 where
  pub desk : DeskName
  pub feeds : List FeedName
  pub number : ℕ
  pub calls : List (Call × Reply)
  pub seen : List Entry

-- What the seat has seen is a legal history from the opening text, within the room. The entries of
-- this seat in it are exactly the seat's calls. The seat's number, and that of each entry, is one
-- of the desk's.
pub record IsSeat (s : SeatState) : Type 0 where
  pub legal : IsLegal s.desk.options.opening s.seen
  pub own : entries s.seen s.number ≡ s.calls
  pub made : s.number < s.desk.options.seats
  pub within : IsWithin s.desk.options.room (length s.seen)
  pub numbered : All (λ e. e.seat < s.desk.options.seats) s.seen

-- The seat has made this call and got this reply. What it has seen of the history then begins with
-- what it had seen before and ends with the entry of this call.
pub record Calls (old new : SeatState) (call : Call) (reply : Reply) : Type 0 where
  pub between : List Entry
  pub seen : new.seen ≡ (old.seen ++ between) ++ entry new.number call reply ∷ []
  pub calls : new.calls ≡ old.calls ++ (call, reply) ∷ []
  pub sound : IsSeat new

-- A call of the seat failed. Its calls are unchanged, and it has seen the history so far. The fault
-- is `HistoryFull` if and only if this history has as many entries as the desk has room for.
pub record IsRefused (old new : SeatState) (fault : DeskFault) : Type 0 where
  pub seen : StartsWith new.seen old.seen
  pub calls : new.calls ≡ old.calls
  pub full : (fault ≡ HistoryFull) ↔ (new.desk.options.room ≡ Some (length new.seen))
  pub sound : IsSeat new

-- A seat that has made no call.
abbrev pub new_seat : DeskName → List FeedName → ℕ → SeatState
new_seat desk feeds number = record { desk = desk; feeds = feeds; number = number; calls = []; seen = [] }

-- The new seats with the numbers below n, in order.
abbrev pub seats_below : DeskName → List FeedName → ℕ → List SeatState
seats_below desk feeds zero = []
seats_below desk feeds (suc n) = seats_below desk feeds n ++ new_seat desk feeds n ∷ []
