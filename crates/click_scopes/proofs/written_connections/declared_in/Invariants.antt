use Rattle.std.proofs.Common.{◌≡◌, ℕ, List}
use Rattle.click_base.specs.NameLists.{has_name}
use Rattle.click_scopes.proofs.OfElements.StatementElements.{declared_by}
use Rattle.click_scopes.proofs.OfElements.DeclaredNames.{Declaring, elements_by}
use Rattle.click_scopes.proofs.written_connections.declared_in.Given as goal

abbrev pub invariant-loop-place : goal.invariant-loop-place
invariant-loop-place l = record {
  firsts : Declaring l.text (elements_by l.written l.place) l.declared.names l.declared.firsts.items;
  has : (name : List ℕ) → has_name name l.declared.names ≡ has_name name (declared_by l.text l.written l.place);
}
