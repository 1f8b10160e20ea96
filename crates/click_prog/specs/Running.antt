-- A run, and its status.
use Rattle.std.specs.Prelude.{◌≡◌, ◌⊎◌, ℕ, ◌+◌, List, Bool, Option, None, false, Result}
use Rattle.click_streams.specs.Peers.{Input, Output}
use Rattle.click_control.specs.declared.serving.Ended.{Ended}
use Rattle.click_control.specs.declared.serving.ServeFault.{ServeFault}
use Rattle.click_desk.specs.BookState.{BookState}
use Rattle.click_workers.specs.Runs.{Headline, HeadlineFor, RanOver, IsTrueFault, IsNoClose}
use Rattle.click_workers.specs.Work.{Attended, AttendedInTurn, Drove, DroveFor, Worked}
use Rattle.click_workers.specs.declared.session.SessionEnd.{SessionEnd}
use Rattle.click_workers.specs.declared.runs.RunFault.{RunFault}
use Rattle.click_prog.specs.Statuses.{end_status, fault_status, sessions_status}
use Rattle.click_cli.specs.declared.status.Status.{Status}

-- The plan of a run: the numbers of sessions and of drivers, the number of rounds of each driver,
-- whether sessions may only read, and whether the router is live.
pub record Planned : Type 0 where
  pub sessions : ℕ
  pub workers : ℕ
  pub rounds : ℕ
  pub readonly : Bool
  pub live : Bool

-- A session ran over the one seat of a desk of this text. The desk's book is a history of one
-- thread. The status is that of the session's end.
pub record HasRun (text : List ℕ) (readonly : Bool) (had left : Input) (held holds : Output) (s : Status) : Type 0 where
  pub book : BookState
  pub headline : Headline text 1 book
  pub ended : Result Ended ServeFault
  pub ran : RanOver text readonly book had left held holds ended
  pub is : s ≡ end_status ended

-- Sessions and drivers ran over one desk of this text, each with a seat of its own, and shared a
-- gate. The desk's book is a history of one thread. The status is that of the sessions' ends.
pub record HaveRun {D Rd Wr G : Type 0} (lets_in : D → ℕ → Option (Rd × Wr) → Type 0) (input : Rd → Input) (output : Wr → Output) (gives : G → ℕ → ℕ → Bool → Type 0)
    (told : G → ℕ → ℕ → Type 0) (door : D) (readonly : Bool) (text : List ℕ) (sessions workers rounds : ℕ) (s : Status) : Type 0 where
  pub gate : G
  pub book : BookState
  pub headline : Headline text (sessions + workers) book
  pub ended : List SessionEnd
  pub drivers : List Bool
  pub worked : Worked (Attended lets_in input output gives told door gate readonly) (Drove gives told gate rounds) sessions (sessions + workers) book.seats ended drivers
  pub is : s ≡ sessions_status ended

-- Session slots and drivers ran over one live desk of this text, each with a seat of its own, and
-- shared a gate. Each session slot served `turns` sessions, one after another.
--
-- There is one history of one thread with exactly their calls and replies. The status is that of
-- the last sessions of the session slots.
pub record HaveLived {D Rd Wr G : Type 0} (lets_in : D → ℕ → Option (Rd × Wr) → Type 0) (input : Rd → Input) (output : Wr → Output) (gives : G → ℕ → ℕ → Bool → Type 0)
    (told : G → ℕ → ℕ → Type 0) (door : D) (readonly : Bool) (text : List ℕ) (places workers turns : ℕ) (s : Status) : Type 0 where
  pub gate : G
  pub book : BookState
  pub headline : HeadlineFor None text (places + workers) book
  pub ended : List SessionEnd
  pub drivers : List Bool
  pub worked : Worked (AttendedInTurn lets_in input output gives told door gate readonly turns) (DroveFor gives told gate None) places (places + workers) book.seats ended drivers
  pub is : s ≡ sessions_status ended

-- There was no desk, and the status is that of the fault.
pub record HaveNotRun (text : List ℕ) (s : Status) : Type 0 where
  pub fault : RunFault
  pub true_fault : IsTrueFault text fault
  pub no_close : IsNoClose fault
  pub is : s ≡ fault_status fault

abbrev pub AllRunTo : {D Rd Wr G : Type 0} → (D → ℕ → Option (Rd × Wr) → Type 0) → (Rd → Input) → (Wr → Output) → (G → ℕ → ℕ → Bool → Type 0) → (G → ℕ → ℕ → Type 0)
    → D → Bool → List ℕ → ℕ → ℕ → ℕ → Status → Type 0
AllRunTo lets_in input output gives told door readonly text sessions workers rounds s =
    HaveRun lets_in input output gives told door readonly text sessions workers rounds s ⊎ HaveNotRun text s

-- There was no session: nothing was read or written, and the status is that of the fault.
pub record HasNotRun (text : List ℕ) (had left : Input) (held holds : Output) (s : Status) : Type 0 where
  pub fault : RunFault
  pub true_fault : IsTrueFault text fault
  pub no_close : IsNoClose fault
  pub refuse_words : left ≡ had
  pub unwritten : holds ≡ held
  pub is : s ≡ fault_status fault

-- A run over the text with this source and this sink, each before and after it, and its status.
abbrev pub RunsTo : List ℕ → Bool → Input → Input → Output → Output → Status → Type 0
RunsTo text readonly had left held holds s = HasRun text readonly had left held holds s ⊎ HasNotRun text had left held holds s

-- A source that has neither read nor failed, and a sink that has not failed, with these bytes.
abbrev pub fresh_input : Option (List ℕ) → Input
fresh_input bytes = record { remaining = bytes; failed = false; reads = 0 }

abbrev pub fresh_output : Option (List ℕ) → Output
fresh_output bytes = record { contents = bytes; failed = false }

-- a run over the text, with some fresh source and some fresh sink
abbrev pub RunsAlone : List ℕ → Bool → Status → Type 0
RunsAlone text readonly s =
    (input : Option (List ℕ)) × (output : Option (List ℕ)) × (left : Input) × (holds : Output) × RunsTo text readonly (fresh_input input) left (fresh_output output) holds s

abbrev pub LiveRunTo : {D Rd Wr G : Type 0} → (D → ℕ → Option (Rd × Wr) → Type 0) → (Rd → Input) → (Wr → Output) → (G → ℕ → ℕ → Bool → Type 0) → (G → ℕ → ℕ → Type 0)
    → D → Bool → List ℕ → ℕ → ℕ → ℕ → Status → Type 0
LiveRunTo lets_in input output gives told door readonly text places workers turns s =
    HaveLived lets_in input output gives told door readonly text places workers turns s ⊎ HaveNotRun text s
