use Rattle.std.proofs.Common.{◌≡◌, List, All, drop}
use Rattle.click_scopes.specs.Elements.{Placed, scope_elements_from}
use Rattle.click_scopes.specs.kept.Tables.{AreWritten, elements_of}
use Rattle.click_scopes.specs.kept.ScopeElements.{strings_made}
use Rattle.click_scopes.specs.kept.CompoundArguments.{HasArguments}
use Rattle.click_scopes.proofs.OfElements.StatementElements.{with_left, strings_left}
use Rattle.click_scopes.proofs.scope_elements.scope_elements_of.Given as goal

abbrev pub invariant-loop-one : goal.invariant-loop-one
invariant-loop-one l = record {
  scope_elements : (ps : List Placed) → AreWritten l.text l.class_table l.written ps →
      scope_elements_from l.text l.in_body l.declared 0 ps ≡ with_left l.text l.in_body l.declared l.scope_elements.items (drop l.one-index ps);
  strings : strings_made l.text l.in_body l.declared (elements_of l.written) ≡ strings_left l.text l.in_body l.declared l.scope_elements.items (drop l.one-index l.written);
  arguments : All (HasArguments l.text) l.scope_elements.items;
}
