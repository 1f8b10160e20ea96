-- The exit statuses of runs, and the line of a check.
use Rattle.std.specs.Prelude.{ℕ, List, [], ◌∷◌, ◌++◌, Bool, true, false, Result, Ok, Err, codes, if◌then◌else◌}
use Rattle.std.specs.List.{list_any}
use Rattle.click_router.specs.declared.check.Check.{Check}
use Rattle.click_router.specs.declared.check.Check.TheVariants as check
use Rattle.click_control.specs.declared.serving.Ended.{Ended}
use Rattle.click_control.specs.declared.serving.Ended.TheVariants as ended
use Rattle.click_control.specs.declared.serving.ServeFault.{ServeFault}
use Rattle.click_control.specs.declared.serving.ServeFault.TheVariants as serve
use Rattle.click_desk.specs.declared.open.OpenFault.{OpenFault}
use Rattle.click_desk.specs.declared.open.OpenFault.TheVariants as opening
use Rattle.click_workers.specs.declared.runs.RunFault.{RunFault}
use Rattle.click_workers.specs.declared.runs.RunFault.TheVariants as fault
use Rattle.click_workers.specs.declared.session.SessionEnd.{SessionEnd}
use Rattle.click_workers.specs.declared.session.SessionEnd.TheVariants as end
use Rattle.click_cli.specs.Statuses.{config_status}
use Rattle.click_cli.specs.declared.status.Status.{Status}
use Rattle.click_cli.specs.declared.status.Status.TheVariants as status

-- the status for the fault of a session
abbrev pub serve_status : ServeFault → Status
serve_status serve.NoMemory = status.NoMemory
serve_status serve.ReadFailed = status.DeviceFailed
serve_status serve.WriteFailed = status.DeviceFailed

-- the status for the end of a session
abbrev pub end_status : Result Ended ServeFault → Status
end_status (Ok ended.Quit) = status.Good
end_status (Ok ended.EndOfInput) = status.Good
end_status (Ok ended.TooLong) = status.Good
end_status (Ok ended.GateClosed) = status.Refused
end_status (Err f) = serve_status f

-- the status of a run without a book
abbrev pub fault_status : RunFault → Status
fault_status (fault.Config f) = config_status f.kind
fault_status fault.NoMemory = status.NoMemory
fault_status (fault.Close number) = status.Refused
fault_status fault.NoView = status.Refused

-- the status if a desk with links was not opened
abbrev pub opening_status : OpenFault → Status
opening_status (opening.Config f) = config_status f.kind
opening_status opening.NoMemory = status.NoMemory
opening_status _ = status.Refused

-- The status of one of several sessions. A session that could not come in has the status of a
-- device that failed.
abbrev pub session_status : SessionEnd → Status
session_status end.NoEntry = status.DeviceFailed
session_status (end.Served r) = end_status r

-- whether this is the status of out of memory; of a refusal; of a device that failed
abbrev pub is_memory : Status → Bool
is_memory status.NoMemory = true
is_memory _ = false

abbrev pub is_refused : Status → Bool
is_refused status.Refused = true
is_refused _ = false

abbrev pub is_device : Status → Bool
is_device status.DeviceFailed = true
is_device _ = false

-- The status of several sessions: the first of these three that some session has.
abbrev pub sessions_status : List SessionEnd → Status
sessions_status ends =
    if list_any (λ e. is_memory (session_status e)) ends then status.NoMemory
    else if list_any (λ e. is_refused (session_status e)) ends then status.Refused
    else if list_any (λ e. is_device (session_status e)) ends then status.DeviceFailed
    else status.Good

-- the word that reports the outcome of a check
abbrev pub check_word : Check → List ℕ
check_word check.Yes = codes "Yes"
check_word check.NoElement = codes "NoElement"
check_word check.NoHandler = codes "NoHandler"
check_word check.WrongWay = codes "WrongWay"

-- the line that reports the outcome of a check
abbrev pub check_line : List ℕ → Check → List ℕ
check_line name answer = codes "check " ++ name ++ codes ": " ++ check_word answer ++ 10 ∷ []
