-- A run with links, and its status.
use Rattle.std.specs.Prelude.{◌≡◌, ◌⊎◌, ℕ, ◌+◌, ◌++◌, List, [], ◌∷◌, Bool, Option, Some, None, map, option_map}
use Rattle.click_streams.specs.Peers.{Input, Output}
use Rattle.click_desk.specs.BookState.{BookState}
use Rattle.click_desk.specs.declared.open.OpenFault.{OpenFault}
use Rattle.click_links.specs.Ends.{Attempt, Hearing, received_over}
use Rattle.click_links.specs.Forwarding.{sent_by, gifts_by}
use Rattle.click_links.specs.declared.run.Receiver.{Receiver}
use Rattle.click_desk.specs.SeatStates.{SeatState}
use Rattle.click_http.specs.declared.serving.Ended.{Ended}
use Rattle.click_workers.specs.Beside.{BesideWork}
use Rattle.click_workers.specs.Linked.{calls_in, ForwardsBeside, LinkedHeadline, LinkRan, IsTrueOpening}
use Rattle.click_workers.specs.Work.{AttendedInTurn, DroveFor, SideBySide}
use Rattle.click_workers.specs.declared.linked.LinkEnd.{LinkEnd}
use Rattle.click_workers.specs.declared.session.SessionEnd.{SessionEnd}
use Rattle.click_prog.specs.Paging.{IsPaged}
use Rattle.click_prog.specs.Running.{Planned}
use Rattle.click_prog.specs.Statuses.{opening_status, sessions_status}
use Rattle.click_cli.specs.declared.status.Status.{Status}
use Rattle.click_cli.specs.declared.status.Status.TheVariants as status

-- A run over a live desk of this text. Session slots, drivers, a forwarder of these receivers'
-- devices, and other work each had seats of their own. Sessions and drivers shared a gate. Each
-- session slot served `turns` sessions, one after another.
--
-- There is one history of one thread with exactly their calls and replies (`headline`). Over the
-- link of each device exactly the packets in the replies to its Transmits in the history were sent,
-- in order, after those sent before (`sent`). Each receiver has the addresses that it had before.
-- What it received is what it dropped, for its cause, what the history polled of its device, and
-- what is left (`links`).
pub record HasLinked {D Rd Wr G Seats Done : Type 0} (sittings : Seats → List SeatState) (many : ℕ) (does : Seats → Seats → Done → Type 0) (lets_in : D → ℕ → Option (Rd × Wr) → Type 0) (input : Rd → Input) (output : Wr → Output) (gives : G → ℕ → ℕ → Bool → Type 0)
    (told : G → ℕ → ℕ → Type 0) (door : D) (readonly : Bool) (text : List ℕ) (places workers turns : ℕ) (receivers : List (Receiver Hearing)) (before : List Attempt) (book : BookState) (ended : List SessionEnd)
    (drivers : List Bool) (after : List Attempt) (ends : List (LinkEnd Hearing)) (done : Done) : Type 0 where
  pub gate : G
  pub headline : LinkedHeadline (map (λ (r : Receiver Hearing). r.device) receivers) text (places + workers + (1 + many)) book
  pub work : BesideWork (λ (s : SeatState × Seats). s.0 ∷ sittings s.1) (1 + many) (ForwardsBeside (map (λ (r : Receiver Hearing). r.device) receivers) before after does)
      (AttendedInTurn lets_in input output gives told door gate readonly turns) (DroveFor gives told gate None) places workers book.seats ended drivers done
  pub sent : (device : List ℕ) → sent_by device after ≡ sent_by device before ++ gifts_by device (calls_in book.entries)
  pub links : SideBySide (λ (r : Receiver Hearing) (e : LinkEnd Hearing). (e.device ≡ r.device) × LinkRan book.entries r.device (received_over r.link) (received_over e.link) e.received.dropped (option_map (λ l. l.items) e.left)) receivers ends

-- a run of `HasLinked`, with the status of the last sessions of the session slots
pub record HaveLinked {D Rd Wr G Seats Done : Type 0} (sittings : Seats → List SeatState) (many : ℕ) (does : Seats → Seats → Done → Type 0) (lets_in : D → ℕ → Option (Rd × Wr) → Type 0) (input : Rd → Input) (output : Wr → Output) (gives : G → ℕ → ℕ → Bool → Type 0)
    (told : G → ℕ → ℕ → Type 0) (door : D) (readonly : Bool) (text : List ℕ) (places workers turns : ℕ) (receivers : List (Receiver Hearing)) (before : List Attempt) (s : Status) : Type 0 where
  pub book : BookState
  pub ended : List SessionEnd
  pub drivers : List Bool
  pub after : List Attempt
  pub ends : List (LinkEnd Hearing)
  pub done : Done
  pub ran : HasLinked sittings many does lets_in input output gives told door readonly text places workers turns receivers before book ended drivers after ends done
  pub is : s ≡ sessions_status ended

-- There was no desk of this number of seats with links of these devices. The status is that of the
-- fault.
pub record HaveNotLinked (seats : ℕ) (devices : List (List ℕ)) (text : List ℕ) (s : Status) : Type 0 where
  pub fault : OpenFault
  pub true_fault : IsTrueOpening seats devices text fault
  pub is : s ≡ opening_status fault

-- A run with links and other work. Or no run, or no memory to begin one.
abbrev pub LinkedBesideTo : {D Rd Wr G Seats Done : Type 0} → (Seats → List SeatState) → ℕ → (Seats → Seats → Done → Type 0) → (D → ℕ → Option (Rd × Wr) → Type 0) → (Rd → Input) → (Wr → Output)
    → (G → ℕ → ℕ → Bool → Type 0) → (G → ℕ → ℕ → Type 0) → D → Bool → List ℕ → ℕ → ℕ → ℕ → List (Receiver Hearing) → List Attempt → Status → Type 0
LinkedBesideTo sittings many does lets_in input output gives told door readonly text places workers turns receivers before s =
    HaveLinked sittings many does lets_in input output gives told door readonly text places workers turns receivers before s
    ⊎ HaveNotLinked (places + workers + (1 + many)) (map (λ (r : Receiver Hearing). r.device) receivers) text s ⊎ (s ≡ status.NoMemory)

-- a run with links and no other work
abbrev pub LinkedRunTo : {D Rd Wr G : Type 0} → (D → ℕ → Option (Rd × Wr) → Type 0) → (Rd → Input) → (Wr → Output) → (G → ℕ → ℕ → Bool → Type 0) → (G → ℕ → ℕ → Type 0)
    → D → Bool → List ℕ → ℕ → ℕ → ℕ → List (Receiver Hearing) → List Attempt → Status → Type 0
LinkedRunTo lets_in input output gives told door readonly text places workers turns receivers before s =
    LinkedBesideTo (λ (_ : Unit {0}). []) 0 (λ _ _ (_ : Unit {0}). Unit {0}) lets_in input output gives told door readonly text places workers turns receivers before s

-- a run with links and a page at this port, which has the last seat
abbrev pub LinkedPageTo : {D Rd Wr G : Type 0} → (D → ℕ → Option (Rd × Wr) → Type 0) → (Rd → Input) → (Wr → Output) → (G → ℕ → ℕ → Bool → Type 0) → (G → ℕ → ℕ → Type 0)
    → ℕ → D → Bool → List ℕ → ℕ → ℕ → ℕ → List (Receiver Hearing) → List Attempt → Status → Type 0
LinkedPageTo lets_in input output gives told at door readonly text places workers turns receivers before s =
    LinkedBesideTo (λ seat. seat ∷ []) 1 (λ old new (_ : Ended). IsPaged readonly at old new) lets_in input output gives told door readonly text places workers turns receivers before s

-- a run of a plan with links, and with a page at this port if there is one
abbrev pub LinkedTo : {D Rd Wr G : Type 0} → (D → ℕ → Option (Rd × Wr) → Type 0) → (Rd → Input) → (Wr → Output) → (G → ℕ → ℕ → Bool → Type 0) → (G → ℕ → ℕ → Type 0)
    → Option ℕ → D → Planned → List ℕ → ℕ → List (Receiver Hearing) → List Attempt → Status → Type 0
LinkedTo lets_in input output gives told None door plan text turns receivers before s =
    LinkedRunTo lets_in input output gives told door plan.readonly text plan.sessions plan.workers turns receivers before s
LinkedTo lets_in input output gives told (Some at) door plan text turns receivers before s =
    LinkedPageTo lets_in input output gives told at door plan.readonly text plan.sessions plan.workers turns receivers before s
