-- How a session takes up its bytes line by line.
use Rattle.std.specs.Prelude.{◌≡◌, ℕ, ◌+◌, ◌≤◌, ◌<◌, List, [], ◌∷◌, ◌++◌, length, take, drop, true, nat_eq, slice_index, ◌&&◌, Option, Some, None, if◌then◌else◌}
use Rattle.click_base.specs.declared.numbers.NumberFault.{NumberFault}
use Rattle.click_base.specs.declared.numbers.NumberFault.TheVariants as fault
use Rattle.click_control.specs.declared.command.Command.{Command}
use Rattle.click_control.specs.declared.command.Command.TheVariants as command
use Rattle.click_control.specs.declared.start.Start.{Start}
use Rattle.click_control.specs.declared.start.Start.TheVariants as start
use Rattle.click_control.specs.declared.session.Line.{Line}
use Rattle.click_control.specs.declared.session.Line.TheVariants as line
use Rattle.click_control.specs.declared.parsed.ParsedLine.TheVariants as parsed
use Rattle.click_control.specs.declared.line.FirstLine.{FirstLine}
use Rattle.click_control.specs.declared.line.FirstLine.TheVariants as found
use Rattle.click_control.specs.Commands.{Reading, in_line, after_return, over, ParsedLine, blank, whole, announces, HasNoEnd, is_end, is_last, longest_line, commands_from}
use Rattle.click_control.specs.Taking.{Pending, to_come, Gives, GivesOne}

abbrev pub reading_of : Start → Reading
reading_of start.Line = in_line []
reading_of start.AfterReturn = after_return
reading_of start.Over = over

abbrev pub says : Rattle.click_control.specs.declared.parsed.ParsedLine.ParsedLine → ParsedLine
says parsed.Blank = blank
says (parsed.Whole c) = whole c
says (parsed.Announces w handler n) = announces w handler n

-- the command of a line whose payload length is not a number or is too great
abbrev pub bad_count : NumberFault → Command
bad_count fault.BadNumber = command.Syntax
bad_count fault.OutOfRange = command.DataTooLong

-- the length of the line end with which these bytes begin
abbrev pub end_length : List ℕ → ℕ
end_length [] = 1
end_length (e ∷ []) = 1
end_length (e ∷ b ∷ bs) = if nat_eq e 13 && nat_eq b 10 then 2 else 1

-- No command is whole with fewer bytes in all than are wanted.
abbrev pub Waits : Reading → List ℕ → ℕ → Type 0
Waits r bytes wanted = (more : List ℕ) → length bytes + length more < wanted → commands_from r (bytes ++ more) ≡ []

-- The offset `at` is within the bytes, and at most half of them are before it. From it on
-- `searched` bytes hold no line end, and `wanted` bytes are needed for the next command.
pub record IsPlaced (at searched wanted : ℕ) (r : Reading) (bytes : List ℕ) : Type 0 where
  pub within : at + searched ≤ length bytes
  pub kept : at + at ≤ length bytes
  pub no_end : HasNoEnd (take searched (drop at bytes))
  pub waits : Waits r (drop at bytes) wanted

abbrev pub optional : Option Command → List Command
optional None = []
optional (Some c) = c ∷ []

-- The first n bytes are a line with the payload that it announces, and this is its command. The
-- reading continues after them at position `r`.
pub record IsTaken (bytes : List ℕ) (c : Option Command) (n : ℕ) (r : Reading) : Type 0 where
  pub some : 0 < n
  pub within : n ≤ length bytes
  pub gives : (more : List ℕ) → commands_from (in_line []) (bytes ++ more) ≡ optional c ++ commands_from r (drop n bytes ++ more)
  pub last : (d : Command) → c ≡ Some d → is_last d ≡ true → r ≡ over

-- The first n bytes are a line, and the byte after them is its end.
pub record IsEnded (bytes : List ℕ) (n : ℕ) : Type 0 where
  pub within : n < length bytes
  pub short : n ≤ longest_line
  pub no_end : HasNoEnd (take n bytes)
  pub end : is_end (slice_index bytes n) ≡ true

-- No command is whole, and none is before `wanted` bytes have come.
pub record IsPartial (bytes : List ℕ) (searched wanted : ℕ) : Type 0 where
  pub within : searched ≤ length bytes
  pub no_end : HasNoEnd (take searched bytes)
  pub none : commands_from (in_line []) bytes ≡ []
  pub waits : Waits (in_line []) bytes wanted

-- the content of bytes that start at the beginning of a line
abbrev pub IsFirstLine : List ℕ → FirstLine → Type 0
IsFirstLine bytes (found.Partial searched wanted) = IsPartial bytes searched wanted
IsFirstLine bytes (found.Taken c n s) = IsTaken bytes c n (reading_of s)

-- the outcome of taking up a session's next line
abbrev pub TakesLine : Pending → Pending → Line → Type 0
TakesLine old new line.Partial = Gives old new [] × (to_come new [] ≡ []) × (length new.bytes ≤ length old.bytes)
TakesLine old new line.Blank = Gives old new [] × (length new.bytes < length old.bytes)
TakesLine old new (line.Whole c) = GivesOne old new c
