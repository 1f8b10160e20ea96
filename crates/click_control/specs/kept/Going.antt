-- The state of a session that is in progress.
use Rattle.std.specs.Prelude.{◌≡◌, ℕ, ◌≤◌, ◌<◌, List, [], ◌++◌, length, Bool, true, false, Option, Some, None, Result, Ok, Err}
use Rattle.std.specs.Io.KnownBytes.{IsAtEnd}
use Rattle.click_router.specs.declared.call.Call.{Call}
use Rattle.click_router.specs.declared.call.Reply.{Reply}
use Rattle.click_control.specs.declared.port.AskFault.{AskFault}
use Rattle.click_control.specs.declared.command.Command.{Command}
use Rattle.click_control.specs.declared.command.Command.TheVariants as command
use Rattle.click_control.specs.declared.command.Answer.{Answer}
use Rattle.click_control.specs.declared.serving.Ended.{Ended}
use Rattle.click_control.specs.declared.serving.Ended.TheVariants as ended
use Rattle.click_control.specs.declared.serving.ServeFault.{ServeFault}
use Rattle.click_control.specs.declared.serving.ServeFault.TheVariants as fault
use Rattle.click_control.specs.Commands.{commands}
use Rattle.click_control.specs.Taking.{Pending, fed, to_come}
use Rattle.click_streams.specs.Peers.{Input, Output, HasRead, HasWritten, WroteFront}
use Rattle.click_control.specs.ReplyText.{greeting}
use Rattle.click_control.specs.Serving.{Asked, replies, GoesOn, Turned, ServesTurns}

-- The text was written in full, or a prefix of it up to a fault.
abbrev pub Written : {T : Type 0} → Result T ServeFault → Output → Output → List ℕ → Type 0
Written (Ok _) held holds text = HasWritten held holds text false
Written (Err fault.WriteFailed) held holds text = WroteFront held holds text true
Written (Err fault.NoMemory) held holds text = WroteFront held holds text false
Written (Err fault.ReadFailed) held holds text = ⊥

-- The session was fed the piece that a read returned, or the input is at its end, or there was a
-- fault.
abbrev pub TakesIn : Input → Input → Pending → Pending → Result Bool ServeFault → Type 0
TakesIn had left old new (Ok true) =
    (piece : List ℕ) × (0 < length piece) × HasRead had left piece 1 false × (new ≡ fed old piece)
TakesIn had left old new (Ok false) = HasRead had left [] 1 false × IsAtEnd left.remaining × (new ≡ old)
TakesIn had left old new (Err fault.ReadFailed) = HasRead had left [] 0 true
TakesIn had left old new (Err fault.NoMemory) = (piece : List ℕ) × HasRead had left piece 1 false
TakesIn had left old new (Err fault.WriteFailed) = ⊥

-- how a command ends a session, if it does
abbrev pub ending_of : Command → Option Ended
ending_of (command.Read handler text) = None
ending_of (command.Write handler text) = None
ending_of (command.CheckRead handler) = None
ending_of (command.CheckWrite handler) = None
ending_of command.Quit = Some ended.Quit
ending_of command.Syntax = None
ending_of command.LineTooLong = Some ended.TooLong
ending_of command.DataTooLong = Some ended.TooLong
ending_of (command.Unknown word) = None

-- A session in progress. It has taken up n commands, each of which is answered in full and whose
-- turns went through. The commands that are still to come are those of the state `s`.
pub record SoFar {P : Type 0} (asks : P → Call → Result Reply AskFault → P → Type 0) {T : Type 0} (turn : T → ℕ → Bool → T → Type 0) (done : T → ℕ → T → Type 0)
    (readonly : Bool) (most : ℕ) (old now : P) (was is : T) (had left : Input) (held holds : Output) (s : Pending) (n reads : ℕ) : Type 0 where
  pub input : List ℕ
  pub read : HasRead had left input reads false
  -- each read returned at least one byte
  pub many : reads ≤ length input
  pub within : reads ≤ most
  pub taken : List Command
  pub goes_on : GoesOn taken
  pub spelled : (more : List ℕ) → commands (input ++ more) ≡ taken ++ to_come s more
  pub answers : List Answer
  pub asked : Asked asks readonly old taken answers now
  pub output : List ℕ
  pub written : HasWritten held holds output false
  pub whole : output ≡ greeting ++ replies taken answers
  pub counted : length taken ≡ n
  pub turned : Turned turn done was n is

-- The outcome of answering commands: the session is in progress, or has ended.
abbrev pub Goes : {P : Type 0} → (P → Call → Result Reply AskFault → P → Type 0) → {T : Type 0} → (T → ℕ → Bool → T → Type 0) → (T → ℕ → T → Type 0) → Bool → ℕ
    → P → P → T → T → Input → Input → Output → Output → Pending → ℕ → ℕ → Result (Option Ended) ServeFault → Type 0
Goes asks turn done readonly most old new was is had left held holds s n reads (Ok None) =
    SoFar asks turn done readonly most old new was is had left held holds s n reads
Goes asks turn done readonly most old new was is had left held holds s n reads (Ok (Some e)) =
    ServesTurns asks turn done readonly most old new was is had left held holds (Ok e)
Goes asks turn done readonly most old new was is had left held holds s n reads (Err f) =
    ServesTurns asks turn done readonly most old new was is had left held holds (Err f)
