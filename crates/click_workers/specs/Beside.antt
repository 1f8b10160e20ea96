-- What a run with additional work leaves.
use Rattle.std.specs.Prelude.{◌≡◌, ℕ, zero, suc, ◌+◌, List, [], ◌∷◌, ◌++◌, Bool}
use Rattle.std.specs.List.{AllZip}
use Rattle.click_rings.specs.Feeds.{FeedName}
use Rattle.click_desk.specs.SeatStates.{DeskName, SeatState, new_seat}
use Rattle.click_workers.specs.Seats.{SameSeat}
use Rattle.click_workers.specs.Work.{Worked}
use Rattle.click_workers.specs.declared.session.SessionEnd.{SessionEnd}

-- The given number of new seats, with consecutive numbers from `first` on, in order.
abbrev pub seats_from : DeskName → List FeedName → ℕ → ℕ → List SeatState
seats_from desk feeds first zero = []
seats_from desk feeds first (suc n) = seats_from desk feeds first n ++ new_seat desk feeds (first + n) ∷ []

-- These are new seats of one desk: `many` of them, with consecutive numbers from `first` on, in
-- order.
abbrev pub AreNew : ℕ → ℕ → List SeatState → Type 0
AreNew first many seats = (desk : DeskName) × (feeds : List FeedName) × (seats ≡ seats_from desk feeds first many)

-- The outcomes of a run with additional work. The first seats, `served`, are those of the session
-- slots and drivers, each with its outcome. The others are those of the additional work: they were
-- new (`before`), and `makes` relates them to the seats that it returned (`after`) and to its
-- result.
pub record BesideWork {Seats Done : Type 0} (sittings : Seats → List SeatState) (many : ℕ) (makes : Seats → Seats → Done → Type 0) (attends : SeatState → SessionEnd → Type 0) (drives : SeatState → Bool → Type 0)
    (places workers : ℕ) (seats : List SeatState) (ended : List SessionEnd) (drivers : List Bool) (done : Done) : Type 0 where
  pub served : List SeatState
  pub before : Seats
  pub after : Seats
  pub parts : seats ≡ served ++ sittings after
  pub worked : Worked attends drives places (places + workers) served ended drivers
  pub fresh : AreNew (places + workers) many (sittings before)
  pub same : AllZip SameSeat (sittings before) (sittings after)
  pub does : makes before after done
