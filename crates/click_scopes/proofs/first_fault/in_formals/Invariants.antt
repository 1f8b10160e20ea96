use Rattle.std.proofs.Common.{◌≡◌, ℕ, List, take}
use Rattle.click_base.specs.NameLists.{has_name}
use Rattle.click_scopes.specs.kept.FirstFault.{IsLeast, IsWrongFormal, formals_in}
use Rattle.click_scopes.proofs.first_fault.in_formals.Given as goal

abbrev pub invariant-loop-formal : goal.invariant-loop-formal
invariant-loop-formal l = record {
  least : IsLeast (IsWrongFormal l.text l.formals l.formal-index) l.first;
  known : (q : List ℕ) → has_name q l.names ≡ has_name q (formals_in l.text (take l.formal-index l.formals));
}
