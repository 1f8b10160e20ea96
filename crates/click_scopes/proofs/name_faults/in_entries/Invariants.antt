use Rattle.click_scopes.specs.kept.NameFaults.{IsWrongEntry}
use Rattle.click_scopes.specs.kept.FirstFault.{IsLeast}
use Rattle.click_scopes.proofs.name_faults.in_entries.Given as goal

abbrev pub invariant-loop-entry : goal.invariant-loop-entry
invariant-loop-entry l = IsLeast (IsWrongEntry l.class_table l.entry-index) l.first
