use Rattle.std.proofs.Common.{◌≡◌, ◌≤◌, drop}
use Rattle.click_scopes.specs.kept.Tables.{elements_of, numbers_from}
use Rattle.click_scopes.proofs.OfElements.StatementElements.{numbers_left}
use Rattle.click_scopes.proofs.scope_elements.numbers_of.Given as goal

abbrev pub invariant-loop-one : goal.invariant-loop-one
invariant-loop-one l = record {
  few : l.number ≤ l.one-index;
  known : numbers_from l.text l.in_body l.declared 0 (elements_of l.written) ≡ numbers_left l.text l.in_body l.declared l.numbers.items l.number (drop l.one-index l.written);
}
