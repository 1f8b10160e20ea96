use Rattle.click_engine.specs.kept.Tables.{texts}
use Rattle.click_engine.proofs.OfNames.NearNames.{FoundFrom}
use Rattle.click_engine.proofs.device_names.unindexed_place.Given as goal

-- the name is not among those up to here
abbrev pub invariant-loop-at : goal.invariant-loop-at
invariant-loop-at l = FoundFrom l.name (texts l.names) l.at
