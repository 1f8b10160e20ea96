-- A run with a page for browsers, and its status.
use Rattle.std.specs.Prelude.{◌≡◌, ◌⊎◌, ℕ, ◌+◌, List, [], ◌∷◌, Bool, true, false, Option, Some, None, Result}
use Rattle.http_server.specs.Exchange.{Call, Chain}
use Rattle.click_streams.specs.Peers.{Input, Output}
use Rattle.click_control.specs.declared.port.AskFault.{AskFault}
use Rattle.click_router.specs.declared.call.Call.{Call as Asked}
use Rattle.click_router.specs.declared.call.Reply.{Reply}
use Rattle.click_desk.specs.BookState.{BookState}
use Rattle.click_desk.specs.SeatStates.{SeatState}
use Rattle.click_http.specs.declared.serving.Ended.{Ended}
use Rattle.click_page.specs.Answering.{Paged, AnswersSo}
use Rattle.click_workers.specs.Beside.{BesideWork}
use Rattle.click_workers.specs.Runs.{HeadlineFor}
use Rattle.click_workers.specs.Seats.{SeatAsks}
use Rattle.click_workers.specs.Work.{AttendedInTurn, DroveFor}
use Rattle.click_workers.specs.declared.session.SessionEnd.{SessionEnd}
use Rattle.click_prog.specs.Running.{Planned, HaveNotRun}
use Rattle.click_prog.specs.Statuses.{sessions_status}
use Rattle.click_cli.specs.declared.status.Status.{Status}

-- a page at this port of the machine, over the port that answers its calls; nothing is known of the
-- figures that its metrics end with
abbrev pub page_at : {P : Type 0} → P → Bool → ℕ → Paged P (Unit {0})
page_at port readonly at = record { port = port; readonly = readonly; at = at; figures = tt }

-- figures may be any text
abbrev pub AnyText : Unit {0} → List ℕ → Type 0
AnyText figures text = Unit {0}

-- The page answered requests, one after another. It made exactly the calls of their commands, and
-- each response reports exactly the answers to its calls, or out of memory. Metrics end with
-- figures, which may be any text. These calls took what answers them from `old` to `new`.
abbrev pub IsPagedOver : {P : Type 0} → (P → Asked → Result Reply AskFault → P → Type 0) → Bool → ℕ → P → P → Type 0
IsPagedOver asks readonly at old new = (requests : List Call) × Chain (AnswersSo AnyText asks) (page_at old readonly at) requests (page_at new readonly at)

-- a page that answered requests over a seat
abbrev pub IsPaged : Bool → ℕ → SeatState → SeatState → Type 0
IsPaged readonly at old new = IsPagedOver SeatAsks readonly at old new

-- a run that ends keeps a book with room for 1,048,576 entries; a live one keeps none
abbrev pub room_of : Bool → Option ℕ
room_of true = None
room_of false = Some 1048576

-- each driver of a run that ends makes this number of rounds; those of a live one go on
abbrev pub rounds_of : Bool → ℕ → Option ℕ
rounds_of true rounds = None
rounds_of false rounds = Some rounds

-- A run over a desk of this text. Session slots, drivers and a page had a seat each, and the page
-- the last one. Each session slot served `turns` sessions, one after another.
--
-- The desk's book is a history of one thread with exactly their calls and replies. The page made
-- exactly the calls of the requests that it answered. The status is that of the last sessions of
-- the session slots.
pub record HavePaged {D Rd Wr G : Type 0} (lets_in : D → ℕ → Option (Rd × Wr) → Type 0) (input : Rd → Input) (output : Wr → Output) (gives : G → ℕ → ℕ → Bool → Type 0)
    (told : G → ℕ → ℕ → Type 0) (door : D) (plan : Planned) (text : List ℕ) (turns at : ℕ) (s : Status) : Type 0 where
  pub gate : G
  pub book : BookState
  pub headline : HeadlineFor (room_of plan.live) text (plan.sessions + plan.workers + 1) book
  pub ended : List SessionEnd
  pub drivers : List Bool
  pub done : Ended
  pub work : BesideWork (λ seat. seat ∷ []) 1 (λ old new (_ : Ended). IsPaged plan.readonly at old new) (AttendedInTurn lets_in input output gives told door gate plan.readonly turns)
      (DroveFor gives told gate (rounds_of plan.live plan.rounds)) plan.sessions plan.workers book.seats ended drivers done
  pub is : s ≡ sessions_status ended

abbrev pub PagedRunTo : {D Rd Wr G : Type 0} → (D → ℕ → Option (Rd × Wr) → Type 0) → (Rd → Input) → (Wr → Output) → (G → ℕ → ℕ → Bool → Type 0) → (G → ℕ → ℕ → Type 0)
    → D → Planned → List ℕ → ℕ → ℕ → Status → Type 0
PagedRunTo lets_in input output gives told door plan text turns at s =
    HavePaged lets_in input output gives told door plan text turns at s ⊎ HaveNotRun text s
