use Rattle.click_prog.proofs.InputLines.{Left}
use Rattle.click_prog.proofs.calls.answering.lines_of.Given as goal

abbrev pub invariant-loop : goal.invariant-loop
invariant-loop g l = Left (g.R.Read.remaining l.initial.input) (g.R.Read.remaining l.input) l.lines
