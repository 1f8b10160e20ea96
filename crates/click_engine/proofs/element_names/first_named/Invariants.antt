use Rattle.click_engine.proofs.OfNames.NearNames.{FoundFrom}
use Rattle.click_engine.proofs.element_names.first_named.Given as goal

-- the name is not among those up to here
abbrev pub invariant-loop-at : goal.invariant-loop-at
invariant-loop-at l = FoundFrom l.name l.net.names l.at
