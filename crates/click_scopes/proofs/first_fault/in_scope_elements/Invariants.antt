use Rattle.std.proofs.Common.{◌≡◌, ℕ, List, take}
use Rattle.click_base.specs.NameLists.{has_name}
use Rattle.click_scopes.specs.kept.FirstFault.{IsLeast, IsWrongScopeElement, local_names}
use Rattle.click_scopes.proofs.first_fault.in_scope_elements.Given as goal

abbrev pub invariant-loop-scope_element : goal.invariant-loop-scope_element
invariant-loop-scope_element l = record {
  least : IsLeast (IsWrongScopeElement l.text l.bodies l.in_body l.scope_elements l.scope_element-index) l.first;
  known : (q : List ℕ) → has_name q l.names ≡ has_name q (local_names (take l.scope_element-index l.scope_elements));
}
