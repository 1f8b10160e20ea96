use Rattle.click_scopes.specs.kept.FirstFault.{IsLeast}
use Rattle.click_scopes.specs.kept.CompoundFaults.{Among, IsCompoundFaultOfBody}
use Rattle.click_scopes.proofs.compound_faults.in_bodies.Given as goal

abbrev pub invariant-loop-place : goal.invariant-loop-place
invariant-loop-place l = IsLeast (Among (IsCompoundFaultOfBody l.bodies l.scopes.scopes.items l.ports) l.place) l.first
