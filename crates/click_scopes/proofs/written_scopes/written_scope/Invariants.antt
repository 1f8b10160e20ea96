use Rattle.std.proofs.Common.{◌≡◌, ◌++◌, List, drop}
use Rattle.click_text.specs.declared.syntax.Statement.{Statement}
use Rattle.click_scopes.specs.kept.Scoped.{ports_in}
use Rattle.click_scopes.specs.kept.Standing.{written_ports}
use Rattle.click_scopes.specs.kept.Tables.{Shows, IsMore}
use Rattle.click_scopes.proofs.OfLists.StatementTables.{Kept}
use Rattle.click_scopes.proofs.OfNames.Synonyms.{Renamed}
use Rattle.click_scopes.proofs.written_scopes.written_scope.Given as goal

abbrev pub invariant-loop-statement : goal.invariant-loop-statement
invariant-loop-statement l = record {
  grows : IsMore l.fn.class_table.items l.class_table.items;
  kept : (visible : List Statement) → Shows l.text l.fn.class_table.items l.fn.nested_body.visible_class visible →
      Kept l.text l.class_table.items l.nested_body.body l.visible_class l.written.items l.fn.nested_bodies.items l.nested_bodies.items visible l.statement-index l.statements;
  ports : written_ports l.written.items ++ ports_in (drop l.statement-index l.statements) ≡ ports_in l.statements;
  synonyms : (visible : List Statement) → Shows l.text l.fn.class_table.items l.fn.nested_body.visible_class visible →
      Renamed l.text visible l.fn.class_table.items l.class_table.items l.statement-index l.statements;
}
