use Rattle.click_scopes.specs.kept.NameFaults.{IsNameFaultWithin}
use Rattle.click_scopes.specs.kept.FirstFault.{IsLeast}
use Rattle.click_scopes.proofs.name_faults.in_bodies.Given as goal

abbrev pub invariant-loop-place : goal.invariant-loop-place
invariant-loop-place l = IsLeast (IsNameFaultWithin l.config l.scopes.scopes.items l.place) l.first
