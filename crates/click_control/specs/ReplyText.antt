-- The text that answers a command (Click manual, "ControlSocket"). Each line begins with three
-- digits, and the last line of a reply has a space after them.
use Rattle.std.specs.Prelude.{ℕ, List, [], ◌++◌, length, codes, decimal}
use Rattle.std.specs.List.{before_last}
use Rattle.click_handlers.specs.Answers.{fault_text}
use Rattle.click_router.specs.declared.call.Reply.TheVariants as reply
use Rattle.click_router.specs.declared.call.Refusal.{Refusal}
use Rattle.click_router.specs.declared.call.Refusal.TheVariants as refusal
use Rattle.click_router.specs.FaultText as config
use Rattle.click_base.specs.Dotted.{is_dot}
use Rattle.click_control.specs.declared.port.AskFault.{AskFault}
use Rattle.click_control.specs.declared.port.AskFault.TheVariants as ask
use Rattle.click_router.specs.declared.check.Access.{Access}
use Rattle.click_router.specs.declared.check.Access.TheVariants as direction
use Rattle.click_control.specs.declared.command.Command.{Command}
use Rattle.click_control.specs.declared.command.Command.TheVariants as command
use Rattle.click_control.specs.declared.command.Answer.{Answer}
use Rattle.click_control.specs.declared.command.Answer.TheVariants as answer

abbrev pub greeting : List ℕ
greeting = codes "Click::ControlSocket/1.3\r\n"

-- a line with a name in quotes
abbrev pub quoting : List ℕ → List ℕ → List ℕ → List ℕ
quoting front name back = front ++ codes "'" ++ name ++ codes "'" ++ back ++ codes "\r\n"

-- a value that was read: its length, and then exactly its bytes
abbrev pub data_text : List ℕ → List ℕ
data_text bytes = codes "DATA " ++ decimal (length bytes) ++ codes "\r\n" ++ bytes

-- the lines of a fault that a handler or a configuration has: the handler's name, and the fault's
-- text
abbrev pub error_text : Access → List ℕ → List ℕ → List ℕ
error_text direction.Read handler fault = quoting (codes "520-Read handler ") handler (codes " error:") ++ codes "520 " ++ fault ++ codes "\r\n"
error_text direction.Write handler fault = quoting (codes "520-Write handler ") handler (codes " error:") ++ codes "520 " ++ fault ++ codes "\r\n"

-- the first line of a successful read, or the line of a successful write or check
abbrev pub good_text : Access → List ℕ → List ℕ
good_text direction.Read handler = quoting (codes "200 Read handler ") handler (codes " OK")
good_text direction.Write handler = quoting (codes "200 Write handler ") handler (codes " OK")

-- the reason why a read or a write was refused
abbrev pub refused_text : Access → List ℕ → Refusal → List ℕ
refused_text w handler refusal.NoElement = quoting (codes "510 No element named ") (before_last is_dot handler) []
refused_text w handler refusal.NoHandler = quoting (codes "511 No handler named ") handler []
refused_text direction.Read handler refusal.WrongWay = quoting (codes "530 Handler ") handler (codes " write-only")
refused_text direction.Write handler refusal.WrongWay = quoting (codes "530 Handler ") handler (codes " read-only")
refused_text w handler (refusal.Handler f) = error_text w handler (fault_text f)
refused_text w handler (refusal.Config f) = error_text w handler (config.fault_text f)

-- the reason why a call failed
abbrev pub failed_text : AskFault → List ℕ
failed_text ask.NoMemory = codes "520 Out of memory\r\n"
failed_text ask.HistoryFull = codes "520 History full\r\n"

-- the denial of a command that a read-only session may not make; a read is never denied
abbrev pub denied_text : Access → List ℕ → List ℕ
denied_text direction.Read handler = []
denied_text direction.Write handler = quoting (codes "530 Permission denied for ") handler []

-- the answer to a read of a handler: its value, or the reason why it has none. There is no text for
-- the replies that only other calls get.
abbrev pub read_text : List ℕ → Answer → List ℕ
read_text handler (answer.Replied (reply.Value bytes)) = good_text direction.Read handler ++ data_text bytes
read_text handler (answer.Replied reply.Done) = []
read_text handler (answer.Replied (reply.Refused why)) = refused_text direction.Read handler why
read_text handler (answer.Replied (reply.Entered count)) = []
read_text handler (answer.Replied (reply.Worked count)) = []
read_text handler (answer.Replied (reply.Sent packet)) = []
read_text handler (answer.Replied reply.NoDevice) = []
read_text handler (answer.Failed f) = failed_text f
read_text handler answer.NoCall = denied_text direction.Read handler

-- the answer to a write, or to the question whether a handler can be read or written
abbrev pub done_text : Access → List ℕ → Answer → List ℕ
done_text w handler (answer.Replied (reply.Value bytes)) = []
done_text w handler (answer.Replied reply.Done) = good_text w handler
done_text w handler (answer.Replied (reply.Refused why)) = refused_text w handler why
done_text w handler (answer.Replied (reply.Entered count)) = []
done_text w handler (answer.Replied (reply.Worked count)) = []
done_text w handler (answer.Replied (reply.Sent packet)) = []
done_text w handler (answer.Replied reply.NoDevice) = []
done_text w handler (answer.Failed f) = failed_text f
done_text w handler answer.NoCall = denied_text w handler

-- the answer to a command that makes no call
abbrev pub uncalled_text : Answer → List ℕ → List ℕ
uncalled_text answer.NoCall text = text
uncalled_text (answer.Replied r) text = []
uncalled_text (answer.Failed f) text = []

-- the text that answers a command
abbrev pub text_of : Command → Answer → List ℕ
text_of (command.Read handler text) a = read_text handler a
text_of (command.Write handler text) a = done_text direction.Write handler a
text_of (command.CheckRead handler) a = done_text direction.Read handler a
text_of (command.CheckWrite handler) a = done_text direction.Write handler a
text_of command.Quit a = uncalled_text a (codes "200 Goodbye!\r\n")
text_of command.Syntax a = uncalled_text a (codes "500 Syntax error\r\n")
text_of command.LineTooLong a = uncalled_text a (codes "500 Line too long\r\n")
text_of command.DataTooLong a = uncalled_text a (codes "500 Data too long\r\n")
text_of (command.Unknown word) a = uncalled_text a (quoting (codes "501 Unimplemented command ") word [])
