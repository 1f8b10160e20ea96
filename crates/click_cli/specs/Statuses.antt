-- The statuses that a program ends with.
use Rattle.std.specs.Prelude.{ℕ}
use Rattle.std.specs.declared.io.ErrorKind.{ErrorKind}
use Rattle.std.specs.declared.io.ErrorKind.TheVariants as io
use Rattle.clap.specs.declared.error.kind.ErrorKind.{ErrorKind as ParseErrorKind}
use Rattle.clap.specs.declared.error.kind.ErrorKind.TheVariants as parse
use Rattle.click_router.specs.declared.fault.FaultKind.{FaultKind}
use Rattle.click_router.specs.declared.fault.FaultKind.TheVariants as kind
use Rattle.click_cli.specs.declared.status.Status.{Status}
use Rattle.click_cli.specs.declared.status.Status.TheVariants as status

-- the number that the program's caller sees
abbrev pub code : Status → ℕ
code status.Good = 0
code status.Faulty = 1
code status.Wrong = 2
code status.NoMemory = 3
code status.Refused = 3
code status.DeviceFailed = 4

-- the status for the fault of a configuration
abbrev pub config_status : FaultKind → Status
config_status kind.NoMemory = status.NoMemory
config_status _ = status.Faulty

-- the status if the words of the command line cannot be read
abbrev pub unread_status : ErrorKind → Status
unread_status io.OutOfMemory = status.NoMemory
unread_status _ = status.Wrong

-- the status if clap reports an error of the words
abbrev pub parse_status : ParseErrorKind → Status
parse_status parse.OutOfMemory = status.NoMemory
parse_status _ = status.Wrong
