use Rattle.click_engine.proofs.OfRuns.RunStarts.{enters-there, leaves-there, source-there, unqueue-there, discard-there}
use Rattle.click_engine.proofs.laws.runs_begin_at_ports_that_are_there.Goals as goal

pub returns : goal.returns
returns c = record { enters = enters-there; leaves = leaves-there; source = source-there; unqueue = unqueue-there; discard = discard-there }
