-- The commands of a stream of bytes (Click manual, "ControlSocket").
use Rattle.std.specs.Prelude.{◌≡◌, ◌⊎◌, ℕ, zero, suc, ◌-◌, List, [], ◌∷◌, ◌++◌, length, take_while, Bool, true, false, not, ◌||◌, nat_eq, nat_le, Option, Some, None, codes, if◌then◌else◌}
use Rattle.std.specs.Str.{str_eq_ignore_ascii_case}
use Rattle.click_base.specs.Blanks.{is_blank, without_front, trimmed}
use Rattle.click_base.specs.Numbers.{digits}
use Rattle.click_router.specs.declared.check.Access.{Access}
use Rattle.click_router.specs.declared.check.Access.TheVariants as direction
use Rattle.click_control.specs.declared.command.Command.{Command}
use Rattle.click_control.specs.declared.command.Command.TheVariants as command

-- ---- the words of a line

-- the bytes from the first blank on
abbrev pub from_blank : List ℕ → List ℕ
from_blank [] = []
from_blank (b ∷ bs) = if is_blank b then b ∷ bs else from_blank bs

-- the first word of a line, without the blanks before it; `after_word` is the rest after this word
abbrev pub first_word : List ℕ → List ℕ
first_word line = take_while (λ b. not (is_blank b)) (without_front line)

abbrev pub after_word : List ℕ → List ℕ
after_word line = from_blank (without_front line)

abbrev pub second_word : List ℕ → List ℕ
second_word line = first_word (after_word line)

abbrev pub third_word : List ℕ → List ℕ
third_word line = second_word (after_word line)

-- ---- the meaning of a line

-- the maximum number of bytes of a line before its end; of a payload
abbrev pub longest_line : ℕ
longest_line = 65536

abbrev pub longest_payload : ℕ
longest_payload = 1048576

-- The meaning of a line: it is blank, it is a whole command, or it announces a payload for a
-- handler. The number is the payload's length in bytes, at least 1.
pub data ParsedLine : Type 0 where
  blank : ParsedLine
  whole : Command → ParsedLine
  announces : Access → List ℕ → ℕ → ParsedLine

-- the command that reads or writes a handler with a text
abbrev pub text_command : Access → List ℕ → List ℕ → Command
text_command direction.Read handler text = command.Read handler text
text_command direction.Write handler text = command.Write handler text

abbrev pub check_command : Access → List ℕ → Command
check_command direction.Read handler = command.CheckRead handler
check_command direction.Write handler = command.CheckWrite handler

-- a line of `READ` or `WRITE`: a handler, and a text
abbrev pub parse_text : Access → List ℕ → List ℕ → ParsedLine
parse_text w [] text = whole command.Syntax
parse_text w (b ∷ handler) text = whole (text_command w (b ∷ handler) text)

-- a line of `CHECKREAD` or `CHECKWRITE`: a handler, and no second word
abbrev pub parse_check : Access → List ℕ → List ℕ → ParsedLine
parse_check w [] second = whole command.Syntax
parse_check w (b ∷ handler) [] = whole (check_command w (b ∷ handler))
parse_check w (b ∷ handler) (c ∷ second) = whole command.Syntax

-- a line that announces a payload of this length; with length 0 it is a whole command
abbrev pub payload_line : Access → List ℕ → Option ℕ → ParsedLine
payload_line w handler None = whole command.Syntax
payload_line w handler (Some zero) = whole (text_command w handler [])
payload_line w handler (Some (suc n)) = if nat_le (suc n) longest_payload then announces w handler (suc n) else whole command.DataTooLong

-- a line of `READDATA` or `WRITEDATA`: a handler, the payload's length in decimal digits, and no
-- third word
abbrev pub parse_data : Access → List ℕ → List ℕ → List ℕ → ParsedLine
parse_data w handler count [] = payload_line w handler (digits count)
parse_data w handler count (b ∷ third) = whole command.Syntax

-- The meaning of a line with this first word and this rest. The case of the first word does not
-- matter.
abbrev pub parse_after : List ℕ → List ℕ → ParsedLine
parse_after word rest =
    if str_eq_ignore_ascii_case word (codes "READ") then parse_text direction.Read (first_word rest) (trimmed (after_word rest))
    else if str_eq_ignore_ascii_case word (codes "WRITE") then parse_text direction.Write (first_word rest) (trimmed (after_word rest))
    else if str_eq_ignore_ascii_case word (codes "READDATA") then parse_data direction.Read (first_word rest) (second_word rest) (third_word rest)
    else if str_eq_ignore_ascii_case word (codes "WRITEDATA") then parse_data direction.Write (first_word rest) (second_word rest) (third_word rest)
    else if str_eq_ignore_ascii_case word (codes "CHECKREAD") then parse_check direction.Read (first_word rest) (second_word rest)
    else if str_eq_ignore_ascii_case word (codes "CHECKWRITE") then parse_check direction.Write (first_word rest) (second_word rest)
    else if str_eq_ignore_ascii_case word (codes "QUIT") then whole command.Quit
    else whole (command.Unknown word)

-- a line without a word is blank
abbrev pub parse_unless_blank : List ℕ → List ℕ → ParsedLine
parse_unless_blank [] rest = blank
parse_unless_blank (b ∷ word) rest = parse_after (b ∷ word) rest

abbrev pub parse_line : List ℕ → ParsedLine
parse_line line = parse_unless_blank (first_word line) (after_word line)

-- ---- the commands of a stream

-- whether a command is the last one of its session
abbrev pub is_last : Command → Bool
is_last (command.Read handler text) = false
is_last (command.Write handler text) = false
is_last (command.CheckRead handler) = false
is_last (command.CheckWrite handler) = false
is_last command.Quit = true
is_last command.Syntax = false
is_last command.LineTooLong = true
is_last command.DataTooLong = true
is_last (command.Unknown word) = false

-- The position of the reading in a stream:
-- `in_line`: in a line that begins with these bytes.
-- `after_return`: after a CR that ended a line.
-- `before_payload`: after a CR that ended a line which announced a payload of this length.
-- `in_payload`: in a payload, after these bytes of it. This number of bytes is still to come.
-- `over`: after the last command of the session.
pub data Reading : Type 0 where
  in_line : List ℕ → Reading
  after_return : Reading
  before_payload : Access → List ℕ → ℕ → Reading
  in_payload : Access → List ℕ → ℕ → List ℕ → Reading
  over : Reading

-- LF and CR end a line
abbrev pub is_end : ℕ → Bool
is_end b = nat_eq b 10 || nat_eq b 13

-- none of these bytes ends a line
abbrev pub HasNoEnd : List ℕ → Type 0
HasNoEnd [] = Unit {0}
HasNoEnd (b ∷ bs) = (is_end b ≡ false) × HasNoEnd bs

-- the command that a line with this meaning gives at its end, if it gives one there
abbrev pub listed : ParsedLine → List Command
listed blank = []
listed (whole c) = c ∷ []
listed (announces w handler n) = []

-- the position after a line end with this first byte: an LF right after a CR belongs to the same
-- end
abbrev pub after_end : ℕ → Reading
after_end b = if nat_eq b 13 then after_return else in_line []

-- the position after the end of a line that announced a payload
abbrev pub payload_after : Access → List ℕ → ℕ → ℕ → Reading
payload_after w handler n b = if nat_eq b 13 then before_payload w handler n else in_payload w handler n []

-- the position after a line with this meaning, whose end has this first byte
abbrev pub after_line : ParsedLine → ℕ → Reading
after_line blank b = after_end b
after_line (whole c) b = if is_last c then over else after_end b
after_line (announces w handler n) b = payload_after w handler n b

-- the command that the next byte of a line completes: the byte ends the line, or is its 65,537th
abbrev pub completed_in : List ℕ → ℕ → List Command
completed_in line b =
    if is_end b then listed (parse_line line) else if nat_le longest_line (length line) then command.LineTooLong ∷ [] else []

-- the command that the next byte of a payload completes: n bytes are still to come, and this is the
-- last one
abbrev pub completed_payload : Access → List ℕ → ℕ → List ℕ → ℕ → List Command
completed_payload w handler n came b = if nat_le n 1 then text_command w handler (came ++ b ∷ []) ∷ [] else []

abbrev pub completed : Reading → ℕ → List Command
completed (in_line line) b = completed_in line b
completed after_return b = if nat_eq b 10 then [] else completed_in [] b
completed (before_payload w handler n) b = if nat_eq b 10 then [] else completed_payload w handler n [] b
completed (in_payload w handler n came) b = completed_payload w handler n came b
completed over b = []

-- the position after the next byte of a line
abbrev pub after_byte_in : List ℕ → ℕ → Reading
after_byte_in line b =
    if is_end b then after_line (parse_line line) b else if nat_le longest_line (length line) then over else in_line (line ++ b ∷ [])

-- the position after the next byte of a payload: after its last byte a line begins
abbrev pub after_payload_byte : Access → List ℕ → ℕ → List ℕ → ℕ → Reading
after_payload_byte w handler n came b = if nat_le n 1 then in_line [] else in_payload w handler (n - 1) (came ++ b ∷ [])

abbrev pub after_byte : Reading → ℕ → Reading
after_byte (in_line line) b = after_byte_in line b
after_byte after_return b = if nat_eq b 10 then in_line [] else after_byte_in [] b
after_byte (before_payload w handler n) b = if nat_eq b 10 then in_payload w handler n [] else after_payload_byte w handler n [] b
after_byte (in_payload w handler n came) b = after_payload_byte w handler n came b
after_byte over b = over

-- the whole commands of the bytes that follow this position
unfoldable pub commands_from : Reading → List ℕ → List Command
commands_from r [] = []
commands_from r (b ∷ bs) = completed r b ++ commands_from (after_byte r b) bs

-- the whole commands of a stream
abbrev pub commands : List ℕ → List Command
commands bytes = commands_from (in_line []) bytes

-- ---- the three ends of a line

-- these bytes do not begin with LF
abbrev pub BeginsNoFeed : List ℕ → Type 0
BeginsNoFeed [] = Unit {0}
BeginsNoFeed (b ∷ bs) = nat_eq b 10 ≡ false

-- a whole line end before these bytes: LF, CR LF, or a CR that no LF follows
abbrev pub IsEndBefore : List ℕ → List ℕ → Type 0
IsEndBefore e more = (e ≡ codes "\n") ⊎ (e ≡ codes "\r\n") ⊎ ((e ≡ codes "\r") × BeginsNoFeed more)
