-- A whole session: the calls that it made through its port (what answers them, such as a router),
-- and the bytes that it wrote.
use Rattle.std.specs.Prelude.{◌≡◌, ◌⊎◌, ℕ, ◌+◌, ◌≤◌, ◌<◌, List, [], ◌∷◌, ◌++◌, length, All, Bool, true, false, Option, Some, None, Result, Ok, Err, if◌then◌else◌}
use Rattle.std.specs.Io.KnownBytes.{IsAtEnd}
use Rattle.click_router.specs.declared.call.Call.{Call}
use Rattle.click_router.specs.declared.call.Call.TheVariants as call
use Rattle.click_router.specs.declared.call.Reply.{Reply}
use Rattle.click_control.specs.declared.port.AskFault.{AskFault}
use Rattle.click_control.specs.declared.command.Command.{Command}
use Rattle.click_control.specs.declared.command.Command.TheVariants as command
use Rattle.click_control.specs.declared.command.Answer.{Answer}
use Rattle.click_control.specs.declared.command.Answer.TheVariants as answer
use Rattle.click_control.specs.declared.serving.Ended.{Ended}
use Rattle.click_control.specs.declared.serving.Ended.TheVariants as ended
use Rattle.click_control.specs.declared.serving.ServeFault.{ServeFault}
use Rattle.click_control.specs.declared.serving.ServeFault.TheVariants as fault
use Rattle.click_control.specs.Commands.{commands, is_last}
use Rattle.click_streams.specs.Peers.{Input, Output, HasRead, HasWritten}
use Rattle.click_control.specs.ReplyText.{greeting, text_of}

-- The call that a command makes. A read-only session makes none for a write, nor for the question
-- whether a handler can be written.
abbrev pub call_of : Bool → Command → Option Call
call_of readonly (command.Read handler text) = Some (call.Read handler text)
call_of readonly (command.Write handler text) = if readonly then None else Some (call.Write handler text)
call_of readonly (command.CheckRead handler) = Some (call.CheckRead handler)
call_of readonly (command.CheckWrite handler) = if readonly then None else Some (call.CheckWrite handler)
call_of readonly command.Quit = None
call_of readonly command.Syntax = None
call_of readonly command.LineTooLong = None
call_of readonly command.DataTooLong = None
call_of readonly (command.Unknown word) = None

-- The answer to a command whose call had this result: the port's reply, or its fault.
abbrev pub answer_of : Result Reply AskFault → Answer
answer_of (Ok r) = answer.Replied r
answer_of (Err f) = answer.Failed f

-- The effect of a command on a port: the port before it, the command's call, the answer, and the
-- port after it. `asks` relates the port before a call, the call, its result and the port after it.
-- If the command makes no call, the port is unchanged.
abbrev pub Answered : {P : Type 0} → (P → Call → Result Reply AskFault → P → Type 0) → P → Option Call → Answer → P → Type 0
Answered asks p None a q = (a ≡ answer.NoCall) × (q ≡ p)
Answered asks p (Some c) a q = (r : Result Reply AskFault) × asks p c r q × (a ≡ answer_of r)

-- The port makes the calls of these commands, one after another, and gives these answers.
pub data Asked {P : Type 0} (asks : P → Call → Result Reply AskFault → P → Type 0) (readonly : Bool) : P → List Command → List Answer → P → Type 0 where
  nothing : (p : P) → Asked asks readonly p [] [] p
  then_one : (p mid q : P) (cs : List Command) (answers : List Answer) (c : Command) (a : Answer) →
      Asked asks readonly p cs answers mid → Answered asks mid (call_of readonly c) a q → Asked asks readonly p (cs ++ c ∷ []) (answers ++ a ∷ []) q

-- The bytes that a session writes for commands with these answers: the text of each reply, in
-- order.
abbrev pub replies : List Command → List Answer → List ℕ
replies [] answers = []
replies (c ∷ cs) [] = []
replies (c ∷ cs) (a ∷ answers) = text_of c a ++ replies cs answers

-- The maximum number of reads of a session whose caller sets no maximum.
abbrev pub most_reads : ℕ
most_reads = 4294967295

-- The last of these commands is this one.
abbrev pub EndsWith : List Command → Command → Type 0
EndsWith cs c = (front : List Command) × (cs ≡ front ++ c ∷ [])

-- the last of these commands is a line or a payload that is too long
abbrev pub EndsTooLong : List Command → Type 0
EndsTooLong cs = EndsWith cs command.LineTooLong ⊎ EndsWith cs command.DataTooLong

-- none of these commands ends a session
abbrev pub GoesOn : List Command → Type 0
GoesOn cs = All (λ c. is_last c ≡ false) cs

-- What a session did:
-- `input`, `reads`, `read_failed`: the bytes that it read, the number of reads that did not fail,
-- and whether a read failed.
-- `taken`, `answers`: the commands that it took up (began to answer), and the answers to them.
-- `more`: the commands that it had read after these and did not take up.
-- `output`, `write_failed`: the bytes that it wrote, and whether a write failed.
pub record Course : Type 0 where
  pub input : List ℕ
  pub reads : ℕ
  pub read_failed : Bool
  pub taken : List Command
  pub more : List Command
  pub answers : List Answer
  pub output : List ℕ
  pub write_failed : Bool

-- Every command that was read was taken up and answered, and all replies are written.
abbrev pub IsWhole : Course → Type 0
IsWhole course = (course.more ≡ []) × (course.output ≡ greeting ++ replies course.taken course.answers)

-- The output is a prefix of the greeting and the replies to the commands taken up. It has the
-- greeting and the replies to all of these commands except the last. So no command is taken up
-- before the reply to the one before it is written.
pub record IsFront (course : Course) : Type 0 where
  pub front : (rest : List ℕ) × (greeting ++ replies course.taken course.answers ≡ course.output ++ rest)
  pub all_but_last : (earlier : List Command) (last : Command) → course.taken ≡ earlier ++ last ∷ []
      → (rest : List ℕ) × (course.output ≡ greeting ++ replies earlier course.answers ++ rest)

-- The session stands before a command that was read and not taken up. The replies to all commands
-- before it are written.
abbrev pub StandsBeforeOne : Course → Type 0
StandsBeforeOne course =
    ((c : Command) × (rest : List Command) × (course.more ≡ c ∷ rest)) × (course.output ≡ greeting ++ replies course.taken course.answers)

-- The session reads no more of its input, for one of two reasons. A read failed after fewer than
-- `most` reads that did not fail. Or exactly `most` reads were made and none failed; together they
-- returned at least `most` bytes.
abbrev pub ReadsNoMore : ℕ → Course → Type 0
ReadsNoMore most course =
    ((course.read_failed ≡ true) × (course.reads < most))
    ⊎ ((course.read_failed ≡ false) × (course.reads ≡ most) × (most ≤ length course.input))

-- What holds of a session of at most `most` reads, depending on how it ended. `left` is its source
-- afterwards.
abbrev pub Ends : ℕ → Result Ended ServeFault → Course → Input → Type 0
Ends most (Ok ended.Quit) course left =
    IsWhole course × EndsWith course.taken command.Quit × (course.read_failed ≡ false) × (course.write_failed ≡ false)
Ends most (Ok ended.TooLong) course left =
    IsWhole course × EndsTooLong course.taken × (course.read_failed ≡ false) × (course.write_failed ≡ false)
Ends most (Ok ended.EndOfInput) course left =
    IsWhole course × GoesOn course.taken × IsAtEnd left.remaining × (course.read_failed ≡ false) × (course.write_failed ≡ false)
Ends most (Ok ended.GateClosed) course left =
    StandsBeforeOne course × GoesOn course.taken × (course.read_failed ≡ false) × (course.write_failed ≡ false)
Ends most (Err fault.ReadFailed) course left =
    IsWhole course × GoesOn course.taken × ReadsNoMore most course × (course.write_failed ≡ false)
Ends most (Err fault.WriteFailed) course left =
    IsFront course × (course.read_failed ≡ false) × (course.write_failed ≡ true)
Ends most (Err fault.NoMemory) course left =
    IsFront course × (course.read_failed ≡ false) × (course.write_failed ≡ false)

-- A session with a port, a source and a sink: `old`, `had` and `held` before it, and `new`, `left`
-- and `holds` after it. It makes at most `most` reads. Its turns went as `went` says for the result
-- and the course; a turn is the permission to take up a command.
pub record ServesSo {P : Type 0} (asks : P → Call → Result Reply AskFault → P → Type 0) (readonly : Bool) (most : ℕ) (went : Result Ended ServeFault → Course → Type 0)
    (old new : P) (had left : Input) (held holds : Output) (result : Result Ended ServeFault) : Type 0 where
  pub course : Course
  pub read : HasRead had left course.input course.reads course.read_failed
  pub within : course.reads ≤ most
  pub spelled : commands course.input ≡ course.taken ++ course.more
  pub asked : Asked asks readonly old course.taken course.answers new
  pub written : HasWritten held holds course.output course.write_failed
  pub ends : Ends most result course left
  pub turned : went result course

-- No turn was refused: the session did not end with `GateClosed`.
abbrev pub NoneRefused : Result Ended ServeFault → Course → Type 0
NoneRefused (Ok ended.Quit) course = Unit {0}
NoneRefused (Ok ended.TooLong) course = Unit {0}
NoneRefused (Ok ended.EndOfInput) course = Unit {0}
NoneRefused (Ok ended.GateClosed) course = ⊥
NoneRefused (Err f) course = Unit {0}

-- A session of at most 4,294,967,295 reads, none of whose turns is refused: it never ends with
-- `GateClosed`.
abbrev pub Serves : {P : Type 0} → (P → Call → Result Reply AskFault → P → Type 0) → Bool → P → P → Input → Input → Output → Output
    → Result Ended ServeFault → Type 0
Serves asks readonly old new had left held holds result =
    ServesSo asks readonly most_reads NoneRefused old new had left held holds result

-- ---- a session's turns

-- The object that gives the turns went from one state to another through n commands, the first to
-- the nth. For each command the turn was asked for and given (`turn` with `true`). Then it was
-- reported that the command is answered (`done`).
pub data Turned {T : Type 0} (turn : T → ℕ → Bool → T → Type 0) (done : T → ℕ → T → Type 0) : T → ℕ → T → Type 0 where
  not_yet : (t : T) → Turned turn done t 0 t
  once_more : (t mid given new : T) (n : ℕ) →
      Turned turn done t n mid → turn mid (n + 1) true given → done given (n + 1) new → Turned turn done t (n + 1) new

-- The turns of a session that stopped early. Either every command taken up had its turn and was
-- reported as answered, and the replies are written if there was a command. Or every command except
-- the last had its turn and was reported as answered, and the last had its turn only.
abbrev pub StopsEarly : {T : Type 0} → (T → ℕ → Bool → T → Type 0) → (T → ℕ → T → Type 0) → T → T → Course → Type 0
StopsEarly turn done was is course =
    (Turned turn done was (length course.taken) is
    × ((course.taken ≡ []) ⊎ (course.output ≡ greeting ++ replies course.taken course.answers)))
    ⊎ ((n : ℕ) × (mid : _) × (length course.taken ≡ n + 1) × Turned turn done was n mid × turn mid (n + 1) true is)

-- The turns of a session, depending on how it ended. Every command taken up had its turn and was
-- reported as answered. At `GateClosed` the turn of the next command was then asked for and
-- refused. For a failed write, and for out of memory, `StopsEarly` says how the turns went.
abbrev pub WentThrough : {T : Type 0} → (T → ℕ → Bool → T → Type 0) → (T → ℕ → T → Type 0) → T → T → Result Ended ServeFault → Course → Type 0
WentThrough turn done was is (Ok ended.Quit) course = Turned turn done was (length course.taken) is
WentThrough turn done was is (Ok ended.TooLong) course = Turned turn done was (length course.taken) is
WentThrough turn done was is (Ok ended.EndOfInput) course = Turned turn done was (length course.taken) is
WentThrough turn done was is (Ok ended.GateClosed) course =
    (mid : _) × Turned turn done was (length course.taken) mid × turn mid (length course.taken + 1) false is
WentThrough turn done was is (Err fault.ReadFailed) course = Turned turn done was (length course.taken) is
WentThrough turn done was is (Err fault.WriteFailed) course = StopsEarly turn done was is course
WentThrough turn done was is (Err fault.NoMemory) course = StopsEarly turn done was is course

-- A session with a port, turns, a source and a sink: `old`, `was`, `had` and `held` before it, and
-- `new`, `is`, `left` and `holds` after it. It makes at most `reads` reads.
abbrev pub ServesTurns : {P : Type 0} → (P → Call → Result Reply AskFault → P → Type 0) → {T : Type 0} → (T → ℕ → Bool → T → Type 0) → (T → ℕ → T → Type 0)
    → Bool → ℕ → P → P → T → T → Input → Input → Output → Output → Result Ended ServeFault → Type 0
ServesTurns asks turn done readonly reads old new was is had left held holds result =
    ServesSo asks readonly reads (WentThrough turn done was is) old new had left held holds result
