-- What sessions and drivers did to their seats.
use Rattle.std.specs.Prelude.{◌≡◌, ◌⊎◌, ◌↔◌, ℕ, zero, suc, ◌+◌, ◌≤◌, ◌<◌, ◌-◌, List, [], ◌∷◌, ◌++◌, length, map, min, Bool, true, false, Option, Some, None}
use Rattle.std.specs.List.{All}
use Rattle.click_rings.specs.Feeds.{FeedName}
use Rattle.click_router.specs.declared.call.Call.TheVariants as call
use Rattle.click_router.specs.declared.call.Reply.{Reply}
use Rattle.click_desk.specs.declared.logged_router.DeskFault.{DeskFault}
use Rattle.click_desk.specs.SeatStates.{DeskName, SeatState, IsRefused, new_seat, seats_below}
use Rattle.click_streams.specs.Peers.{Input, Output}
use Rattle.click_control.specs.Serving.{Turned, WentThrough, most_reads}
use Rattle.click_workers.specs.Gates.{Place, place, AsksGate, TellsGate}
use Rattle.click_workers.specs.Seats.{IsOf, SameSeat, SeatServes}
use Rattle.click_workers.specs.declared.session.SessionEnd.{SessionEnd}
use Rattle.click_workers.specs.declared.session.SessionEnd.TheVariants as end
use Rattle.click_workers.specs.declared.work.Outcome.{Outcome}
use Rattle.click_workers.specs.declared.work.Outcome.TheVariants as outcome

-- Why a driver stopped before its nth Round, and what that did to its seat. Either the gate refused
-- the Round, and the seat is unchanged; or the gate allowed it, and the call failed.
abbrev pub Stops : {G : Type 0} → (G → ℕ → ℕ → Bool → Type 0) → G → ℕ → ℕ → SeatState → SeatState → Type 0
Stops gives gate who nth old new =
    (gives gate who nth false × (new ≡ old)) ⊎ (gives gate who nth true × SameSeat old new × ((fault : DeskFault) × IsRefused old new fault))

-- One attempt of a driver at a Round. If the result is true, the gate allowed the Round, it was
-- made, and the gate was notified. Otherwise the driver stops for one of two reasons.
abbrev pub TakesTurn : {G : Type 0} → (G → ℕ → ℕ → Bool → Type 0) → (G → ℕ → ℕ → Type 0) → G → ℕ → ℕ → SeatState → SeatState → Bool → Type 0
TakesTurn gives told gate who nth old new true =
    gives gate who nth true × told gate who nth × ((reply : Reply) × (new.calls ≡ old.calls ++ (call.Round, reply) ∷ []))
TakesTurn gives told gate who nth old new false = Stops gives gate who nth old new

-- All Rounds of a driver. Its calls are Rounds only, and `all` is true if and only if it made
-- `rounds` of them. The gate allowed each of them and was notified of it. The driver stopped early
-- only because the gate refused the next Round or that Round failed.
pub record Drives {G : Type 0} (gives : G → ℕ → ℕ → Bool → Type 0) (told : G → ℕ → ℕ → Type 0) (gate : G) (who rounds : ℕ) (s : SeatState) (all : Bool) : Type 0 where
  pub rounds_alone : All (λ p. p.0 ≡ call.Round) s.calls
  pub within : length s.calls ≤ rounds
  pub full : (all ≡ true) ↔ (length s.calls ≡ rounds)
  pub turned : Turned (AsksGate gives) (TellsGate told) (place gate who) (length s.calls) (place gate who)
  pub stopped : all ≡ false → (before : SeatState) × Stops gives gate who (length s.calls + 1) before s

-- The outcome of a session, over a seat before and after it. Either the door did not let it in, and
-- it made no call. Or the door let it in under its number, with a reader and a writer, and it was
-- served with these over the seat, its commands passing the gate. `gone` and `wrote` are the reader
-- and the writer afterwards.
abbrev pub Attends : {D Rd Wr G : Type 0} → (D → ℕ → Option (Rd × Wr) → Type 0) → (Rd → Input) → (Wr → Output) → (G → ℕ → ℕ → Bool → Type 0) → (G → ℕ → ℕ → Type 0)
    → D → G → Bool → ℕ → SeatState → SeatState → SessionEnd → Type 0
Attends lets_in input output gives told door gate readonly who old new end.NoEntry = lets_in door who None × (new ≡ old)
Attends {D} {Rd} {Wr} {G} lets_in input output gives told door gate readonly who old new (end.Served r) =
    (reader : Rd) × (writer : Wr) × (gone : Rd) × (wrote : Wr) × (is : Place G) × lets_in door who (Some (reader, writer))
    × SeatServes readonly most_reads (WentThrough (AsksGate gives) (TellsGate told) (place gate who) is) old new (input reader) (input gone) (output writer) (output wrote) r

-- The outcome of a session that had its seat from the first call on. Its number, from 1, is one
-- more than the seat's.
abbrev pub Attended : {D Rd Wr G : Type 0} → (D → ℕ → Option (Rd × Wr) → Type 0) → (Rd → Input) → (Wr → Output) → (G → ℕ → ℕ → Bool → Type 0) → (G → ℕ → ℕ → Type 0)
    → D → G → Bool → SeatState → SessionEnd → Type 0
Attended lets_in input output gives told door gate readonly s e =
    Attends lets_in input output gives told door gate readonly (suc s.number) (new_seat s.desk s.feeds s.number) s e

-- The outcome of a driver. Its number is one more than the seat's; the numbers of drivers follow
-- those of the sessions.
abbrev pub Drove : {G : Type 0} → (G → ℕ → ℕ → Bool → Type 0) → (G → ℕ → ℕ → Type 0) → G → ℕ → SeatState → Bool → Type 0
Drove gives told gate rounds s all = Drives gives told gate (suc s.number) rounds s all

-- Sessions of one slot, one after another over one seat, with the end of the last one. Each
-- continues with the seat as the one before it left it.
abbrev pub InTurn : (SeatState → SeatState → SessionEnd → Type 0) → ℕ → SeatState → SeatState → SessionEnd → Type 0
InTurn attends zero old new last = ⊥
InTurn attends (suc zero) old new last = attends old new last
InTurn attends (suc (suc n)) old new last = (between : SeatState) × (before : SessionEnd) × InTurn attends (suc n) old between before × attends between new last

-- The outcome of a session slot, which has the number and the seat of a session. It serves `turns`
-- sessions, each under the slot's number.
abbrev pub AttendedInTurn : {D Rd Wr G : Type 0} → (D → ℕ → Option (Rd × Wr) → Type 0) → (Rd → Input) → (Wr → Output) → (G → ℕ → ℕ → Bool → Type 0) → (G → ℕ → ℕ → Type 0)
    → D → G → Bool → ℕ → SeatState → SessionEnd → Type 0
AttendedInTurn lets_in input output gives told door gate readonly turns s e =
    InTurn (Attends lets_in input output gives told door gate readonly (suc s.number)) turns (new_seat s.desk s.feeds s.number) s e

-- The outcome of a driver that was to make this many Rounds; with no number given, of one that made
-- any number of them.
abbrev pub DrivesFor : {G : Type 0} → (G → ℕ → ℕ → Bool → Type 0) → (G → ℕ → ℕ → Type 0) → G → ℕ → Option ℕ → SeatState → Bool → Type 0
DrivesFor gives told gate who (Some rounds) s all = Drives gives told gate who rounds s all
DrivesFor gives told gate who None s all = (rounds : ℕ) × Drives gives told gate who rounds s all

-- The outcome of a driver, which has a number one more than its seat's.
abbrev pub DroveFor : {G : Type 0} → (G → ℕ → ℕ → Bool → Type 0) → (G → ℕ → ℕ → Type 0) → G → Option ℕ → SeatState → Bool → Type 0
DroveFor gives told gate rounds s all = DrivesFor gives told gate (suc s.number) rounds s all

-- The outcome of the seat whose slot or driver has the number `who`: that of a session slot if
-- `who` is at most `sessions`, otherwise that of a driver.
abbrev pub CameOf : (SeatState → SessionEnd → Type 0) → (SeatState → Bool → Type 0) → ℕ → ℕ → SeatState → Outcome → Type 0
CameOf attends drives sessions who s (outcome.Attended e) = (who ≤ sessions) × attends s e
CameOf attends drives sessions who s (outcome.Drove all) = (sessions < who) × drives s all

-- The end of the session, if the outcome is that of a slot.
abbrev pub ends_of : Outcome → List SessionEnd
ends_of (outcome.Attended e) = e ∷ []
ends_of (outcome.Drove all) = []

-- The answer of the driver, if the outcome is that of a driver.
abbrev pub drives_of : Outcome → List Bool
drives_of (outcome.Attended e) = []
drives_of (outcome.Drove all) = all ∷ []

-- If the old seats belong to this desk, with some feeds, so do the new ones, with the same feeds.
abbrev pub StayOf : DeskName → List SeatState → List SeatState → Type 0
StayOf desk old new = (feeds : List FeedName) → All (IsOf desk feeds) old → All (IsOf desk feeds) new

-- Two lists of the same length whose items are related pairwise.
abbrev pub SideBySide : {X Y : Type 0} → (X → Y → Type 0) → List X → List Y → Type 0
SideBySide R [] [] = Unit {0}
SideBySide R (x ∷ xs) (y ∷ ys) = R x y × SideBySide R xs ys
SideBySide R [] (y ∷ ys) = ⊥
SideBySide R (x ∷ xs) [] = ⊥

-- The numbers below n, in order.
abbrev pub numbers_below : ℕ → List ℕ
numbers_below zero = []
numbers_below (suc n) = numbers_below n ++ n ∷ []

-- The outcomes of n seats. The first seats are those of the session slots and the others those of
-- the drivers, each at the index that is its number. The outcome of each stands at the same
-- position in `ended` or `drivers`.
pub record Worked (attends : SeatState → SessionEnd → Type 0) (drives : SeatState → Bool → Type 0) (sessions n : ℕ) (seats : List SeatState) (ended : List SessionEnd)
    (drivers : List Bool) : Type 0 where
  pub first : List SeatState
  pub others : List SeatState
  pub parts : seats ≡ first ++ others
  pub many : length seats ≡ n
  pub numbers : map (λ s. s.number) seats ≡ numbers_below n
  pub first_many : length first ≡ min n sessions
  pub attended : SideBySide attends first ended
  pub driven : SideBySide drives others drivers

-- New seats of a desk, without any outcome yet, and with room for the outcome of each.
pub record Ready (desk : DeskName) (sessions n : ℕ) (seats : List SeatState) (ended : List SessionEnd) (drivers : List Bool) (ended_room drivers_room : ℕ) : Type 0 where
  pub fresh : (feeds : List FeedName) × (seats ≡ seats_below desk feeds n)
  pub none_ended : ended ≡ []
  pub none_driven : drivers ≡ []
  pub room_ended : min n sessions ≤ ended_room
  pub room_driven : n - sessions ≤ drivers_room
