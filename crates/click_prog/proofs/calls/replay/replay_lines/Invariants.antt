use Rattle.std.proofs.Common.{◌≡◌, take}
use Rattle.click_prog.specs.Replays.{Replays}
use Rattle.click_prog.proofs.calls.replay.replay_lines.Given as goal

abbrev pub invariant-loop-line : goal.invariant-loop-line
invariant-loop-line g l = record { counted : l.count ≡ l.line-index; same : Replays l.initial.router (take l.line-index l.lines) l.router }
