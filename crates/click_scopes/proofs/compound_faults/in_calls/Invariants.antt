use Rattle.click_scopes.specs.kept.FirstFault.{IsLeast}
use Rattle.click_scopes.specs.kept.CompoundFaults.{Among, IsWrongCall}
use Rattle.click_scopes.proofs.compound_faults.in_calls.Given as goal

abbrev pub invariant-loop-scope_element : goal.invariant-loop-scope_element
invariant-loop-scope_element l = IsLeast (Among (IsWrongCall l.bodies l.scope_elements) l.scope_element-index) l.first
