-- The exit statuses of the mode `--calls`.
use Rattle.click_cli.specs.declared.status.Status.{Status}
use Rattle.click_cli.specs.declared.status.Status.TheVariants as status
use Rattle.click_prog.specs.declared.calls.answering.CallsFault.{CallsFault}
use Rattle.click_prog.specs.declared.calls.answering.CallsFault.TheVariants as calls_fault
use Rattle.click_prog.specs.declared.calls.replay.ReplayOutcome.{ReplayOutcome}
use Rattle.click_prog.specs.declared.calls.replay.ReplayOutcome.TheVariants as replayed

-- the status if the answering of calls stopped early
abbrev pub fault_status : CallsFault → Status
fault_status (calls_fault.Line number fault) = status.Wrong
fault_status calls_fault.NoMemory = status.NoMemory
fault_status calls_fault.DeviceFailed = status.DeviceFailed

-- the status for the outcome of a replay
abbrev pub replayed_status : ReplayOutcome → Status
replayed_status (replayed.Same count) = status.Good
replayed_status (replayed.Differs number written came) = status.Faulty
replayed_status (replayed.NoLine number) = status.Wrong
