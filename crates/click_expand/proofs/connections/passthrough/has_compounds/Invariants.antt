use Rattle.click_scopes.specs.kept.Lookups.{body_at}
use Rattle.click_expand.proofs.OfConnections.PortStandIns.{NoBodies}
use Rattle.click_expand.proofs.connections.passthrough.has_compounds.Given as goal

abbrev pub invariant-loop-element : goal.invariant-loop-element
invariant-loop-element l = NoBodies (body_at l.scopes.scopes.items l.scope) l.element
