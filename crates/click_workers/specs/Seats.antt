-- What calls and sessions do to a seat.
use Rattle.std.specs.Prelude.{◌≡◌, ℕ, List, [], ◌∷◌, ◌++◌, Bool, Option, Some, None, Result, Ok, Err}
use Rattle.click_rings.specs.Feeds.{FeedName}
use Rattle.click_router.specs.declared.call.Call.{Call}
use Rattle.click_router.specs.declared.call.Reply.{Reply}
use Rattle.click_desk.specs.declared.logged_router.DeskFault.{DeskFault}
use Rattle.click_desk.specs.declared.logged_router.DeskFault.TheVariants as desk
use Rattle.click_desk.specs.SeatStates.{DeskName, SeatState, Calls, IsRefused}
use Rattle.click_control.specs.declared.port.AskFault.{AskFault}
use Rattle.click_control.specs.declared.port.AskFault.TheVariants as ask
use Rattle.click_control.specs.declared.command.Command.{Command}
use Rattle.click_control.specs.declared.command.Answer.{Answer}
use Rattle.click_control.specs.declared.command.Answer.TheVariants as answer
use Rattle.click_control.specs.declared.serving.Ended.{Ended}
use Rattle.click_control.specs.declared.serving.ServeFault.{ServeFault}
use Rattle.click_streams.specs.Peers.{Input, Output}
use Rattle.click_control.specs.Serving.{call_of, Course, ServesSo}

-- The seat has the same number, desk and feeds.
abbrev pub SameSeat : SeatState → SeatState → Type 0
SameSeat old new = (new.desk ≡ old.desk) × (new.number ≡ old.number) × (new.feeds ≡ old.feeds)

-- The seat belongs to this desk, which has these feeds.
abbrev pub IsOf : DeskName → List FeedName → SeatState → Type 0
IsOf desk feeds s = (s.desk ≡ desk) × (s.feeds ≡ feeds)

abbrev pub refusal_of : AskFault → DeskFault
refusal_of ask.NoMemory = desk.NoMemory
refusal_of ask.HistoryFull = desk.HistoryFull

-- One call through the seat. Its list grows by the call and the reply; or the call failed, and the
-- list is unchanged.
abbrev pub SeatAsks : SeatState → Call → Result Reply AskFault → SeatState → Type 0
SeatAsks old c (Ok reply) new = SameSeat old new × Calls old new c reply
SeatAsks old c (Err f) new = SameSeat old new × IsRefused old new (refusal_of f)

-- The call with its reply, if there was a call and it did not fail.
abbrev pub made_one : Option Call → Answer → List (Call × Reply)
made_one None a = []
made_one (Some c) (answer.Replied r) = (c, r) ∷ []
made_one (Some c) (answer.Failed f) = []
made_one (Some c) answer.NoCall = []

-- The calls of these commands that did not fail, with their replies.
abbrev pub made : Bool → List Command → List Answer → List (Call × Reply)
made readonly [] answers = []
made readonly (c ∷ cs) [] = []
made readonly (c ∷ cs) (a ∷ answers) = made_one (call_of readonly c) a ++ made readonly cs answers

-- A session over a seat: the seat's list grew by exactly the calls that did not fail, with their
-- replies.
pub record SeatServes (readonly : Bool) (most : ℕ) (went : Result Ended ServeFault → Course → Type 0) (old new : SeatState) (had left : Input) (held holds : Output)
    (result : Result Ended ServeFault) : Type 0 where
  pub same : SameSeat old new
  pub serves : ServesSo SeatAsks readonly most went old new had left held holds result
  pub calls : new.calls ≡ old.calls ++ made readonly serves.course.taken serves.course.answers
