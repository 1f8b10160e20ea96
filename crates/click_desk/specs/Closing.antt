-- What the book of a closed desk promises.
use Rattle.std.specs.Prelude.{◌≡◌, ℕ, ◌<◌, ◌==◌, List, count_by, is_some, length, map, slice_index_or}
use Rattle.std.specs.List.{All}
use Rattle.click_desk.specs.declared.entry.Entry.{Entry}
use Rattle.click_desk.specs.BookState.{BookState}
use Rattle.click_desk.specs.Bounds.{IsWithin}
use Rattle.click_desk.specs.History.{Legal, entries, StartsWith, installs, EachLawful}
use Rattle.click_rings.specs.Feeds.{name_of}
use Rattle.click_desk.specs.Polls.{IsPolled}
use Rattle.click_desk.specs.SeatStates.{DeskName, SeatState}

-- Each number below n is that of exactly one of the seats.
abbrev pub IsEachOnce : ℕ → List SeatState → Type 0
IsEachOnce n seats = (k : ℕ) → k < n → count_by (λ s. s.number == k) seats ≡ 1

-- The entries of the seat are exactly its calls and replies, in order, and what it has seen is a
-- prefix of the history.
abbrev pub IsEntered : List Entry → SeatState → Type 0
IsEntered history s = (entries history s.number ≡ s.calls) × StartsWith history s.seen

-- The theorem about the book of a desk that was closed with these seats.
pub record Closes (desk : DeskName) (seats : List SeatState) (book : BookState) : Type 0 where
  pub seats_are : book.seats ≡ seats
  pub opening : book.opening ≡ desk.options.opening
  pub kept : book.keeps ≡ is_some desk.options.room
  pub replayed : Legal book.opening book.entries book.router
  pub lawful : EachLawful (installs book.opening book.entries)
  pub within : IsWithin desk.options.room (length book.entries)
  pub entered : All (IsEntered book.entries) seats
  pub numbered : All (λ e. count_by (λ s. s.number == e.seat) seats ≡ 1) book.entries
  pub feeds : (s : SeatState) → (slice_index_or seats 0 s).feeds ≡ map name_of book.consumers
  pub polled : IsPolled book.entries book.consumers
  pub origin : book.board ≡ desk.options.origin
