-- What whole runs leave.
use Rattle.std.specs.Prelude.{◌≡◌, ◌==◌, count_by, ℕ, List, [], ◌∷◌, map, drop, Bool, Option, Some, None, is_some, Result}
use Rattle.std.specs.List.{All}
use Rattle.click_rings.specs.Feeds.{FeedName}
use Rattle.click_router.specs.Opened.{IsFirstFault}
use Rattle.click_router.specs.One.{Listing, IsListing, check}
use Rattle.click_router.specs.declared.call.Call.{Call}
use Rattle.click_router.specs.declared.call.Call.TheVariants as call
use Rattle.click_router.specs.declared.call.Reply.{Reply}
use Rattle.click_router.specs.declared.check.Check.{Check}
use Rattle.click_router.specs.declared.check.Access.TheVariants as direction
use Rattle.click_router.specs.declared.fault.FaultKind.TheVariants as kind
use Rattle.click_views.specs.Showing.{IsLast}
use Rattle.click_desk.specs.BookState.{BookState}
use Rattle.click_desk.specs.History.{Legal, EachLawful, installs, entry, entries}
use Rattle.click_desk.specs.Closing.{IsEntered, IsEachOnce}
use Rattle.click_desk.specs.SeatStates.{DeskName, SeatState, new_seat}
use Rattle.click_desk.specs.declared.entry.Entry.{Entry}
use Rattle.click_desk.specs.declared.open.OpenFault.{OpenFault}
use Rattle.click_desk.specs.declared.open.OpenFault.TheVariants as refused
use Rattle.click_streams.specs.Peers.{Input, Output}
use Rattle.click_control.specs.Serving.{NoneRefused, most_reads}
use Rattle.click_control.specs.declared.serving.Ended.{Ended}
use Rattle.click_control.specs.declared.serving.ServeFault.{ServeFault}
use Rattle.click_workers.specs.Seats.{SeatServes}
use Rattle.click_workers.specs.declared.runs.RunFault.{RunFault}
use Rattle.click_workers.specs.declared.runs.RunFault.TheVariants as fault

-- The desk was opened with this text, this many seats and this room. The room is the maximum number
-- of entries of its history; with no room the history has no bound and is not stored.
abbrev pub IsOpenedFor : Option ℕ → List ℕ → ℕ → DeskName → Type 0
IsOpenedFor room text n desk = (desk.options.opening ≡ text) × (desk.options.room ≡ room) × (desk.options.seats ≡ n)

-- The desk was opened with this text and this many seats, and stores up to 1,048,576 entries.
abbrev pub IsOpenedWith : List ℕ → ℕ → DeskName → Type 0
IsOpenedWith text n desk = IsOpenedFor (Some 1048576) text n desk

-- The headline: the book is a history of one thread from this text, with n seats.
--
-- One thread that makes its calls in order, from what the text opens, gets exactly its replies and
-- ends in its router. Every configuration that was installed is lawful. The entries of each seat
-- are exactly the calls that the seat made and the replies that it got, in order. Each number below
-- n is that of one seat, and each entry is of one of the seats. The entries are stored if the room
-- has a bound. The desk of every seat was opened with this text, this room, n seats and these
-- feeds. If there are no feeds, the book has none.
pub record HeadlineWith (feeds : List FeedName) (room : Option ℕ) (text : List ℕ) (n : ℕ) (book : BookState) : Type 0 where
  pub opening : book.opening ≡ text
  pub kept : book.keeps ≡ is_some room
  pub replayed : Legal book.opening book.entries book.router
  pub lawful : EachLawful (installs book.opening book.entries)
  pub entered : All (IsEntered book.entries) book.seats
  pub once : IsEachOnce n book.seats
  pub numbered : All (λ e. count_by (λ s. s.number == e.seat) book.seats ≡ 1) book.entries
  pub no_feeds : feeds ≡ [] → book.consumers ≡ []
  pub options : All (λ s. IsOpenedFor room text n s.desk × (s.feeds ≡ feeds)) book.seats

-- The headline of a desk without feeds.
abbrev pub HeadlineFor : Option ℕ → List ℕ → ℕ → BookState → Type 0
HeadlineFor room text n book = HeadlineWith [] room text n book

-- The headline of a run that stores its history: the desk has no feeds and room for 1,048,576
-- entries.
abbrev pub Headline : List ℕ → ℕ → BookState → Type 0
Headline text n book = HeadlineFor (Some 1048576) text n book

-- The entries of the drivers' seats, which follow those of the sessions, are Rounds only.
abbrev pub DriversRound : ℕ → BookState → Type 0
DriversRound sessions book = All (λ s. All (λ p. p.0 ≡ call.Round) (entries book.entries s.number)) (drop sessions book.seats)

-- These calls and replies as the entries of one seat.
abbrev pub entries_of : ℕ → List (Call × Reply) → List Entry
entries_of number calls = map (λ p. entry number p.0 p.1) calls

-- The session of `run`: the book has one seat, with number 0, and the session was served over it.
-- Its calls that did not fail get the replies that a single thread gets from this text.
pub record RanOver (text : List ℕ) (readonly : Bool) (book : BookState) (had left : Input) (held holds : Output) (result : Result Ended ServeFault) : Type 0 where
  pub seat : SeatState
  pub seats : book.seats ≡ seat ∷ []
  pub number : seat.number ≡ 0
  pub served : SeatServes readonly most_reads NoneRefused (new_seat seat.desk [] 0) seat had left held holds result
  pub alone : Legal text (entries_of 0 seat.calls) book.router

-- The answer says whether a handler of this name can be read in the last configuration that the
-- book installed.
abbrev pub Answers : List ℕ → BookState → Check → Type 0
Answers name book answer =
    (text : List ℕ) × (l : Listing) × IsLast (installs book.opening book.entries) text × IsListing text l × (answer ≡ check l direction.Read name)

-- The number of views that are needed to check an optional name.
abbrev pub views_for : Option (List ℕ) → ℕ
views_for None = 0
views_for (Some name) = 1

-- If there is a name, there is an answer, and it is right. If there is no name, there is no answer.
abbrev pub IsChecked : Option (List ℕ) → BookState → Option Check → Type 0
IsChecked None book None = Unit {0}
IsChecked None book (Some answer) = ⊥
IsChecked (Some name) book None = ⊥
IsChecked (Some name) book (Some answer) = Answers name book answer

-- If the fault is `Config`, it holds the first fault of the text, whose kind is not out of memory.
abbrev pub IsTrueFault : List ℕ → RunFault → Type 0
IsTrueFault text (fault.Config f) = IsFirstFault text f × (f.kind ≡ kind.NoMemory → ⊥)
IsTrueFault text fault.NoMemory = Unit {0}
IsTrueFault text (fault.Close code) = Unit {0}
IsTrueFault text fault.NoView = Unit {0}

-- The fault is not that the close was refused.
abbrev pub IsNoClose : RunFault → Type 0
IsNoClose (fault.Config f) = Unit {0}
IsNoClose fault.NoMemory = Unit {0}
IsNoClose (fault.Close code) = ⊥
IsNoClose fault.NoView = Unit {0}

-- The fault is `NoView` only if a check was asked for.
abbrev pub IsViewAsked : Option (List ℕ) → RunFault → Type 0
IsViewAsked None fault.NoView = ⊥
IsViewAsked None (fault.Config f) = Unit {0}
IsViewAsked None fault.NoMemory = Unit {0}
IsViewAsked None (fault.Close code) = Unit {0}
IsViewAsked (Some name) f = Unit {0}

-- The fault of opening a desk is not due to the number of its seats, to its inlets or to the number
-- of its views.
abbrev pub IsLate : OpenFault → Type 0
IsLate refused.SeatCount = ⊥
IsLate refused.DeviceTwice = ⊥
IsLate refused.InletCount = ⊥
IsLate refused.ViewCount = ⊥
IsLate (refused.Config f) = Unit {0}
IsLate refused.NoMemory = Unit {0}
IsLate refused.NoView = Unit {0}
