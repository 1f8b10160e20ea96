use Rattle.std.proofs.Common.{◌≡◌}
use Rattle.click_scopes.proofs.OfLists.TableRows.{Filled}
use Rattle.click_scopes.proofs.OfConnections.AllScopes.{ScopeAt}
use Rattle.click_scopes.proofs.scopes.all_scopes.Given as goal

abbrev pub invariant-loop-place : goal.invariant-loop-place
invariant-loop-place l = (l.one-items ≡ l.written.scopes.items) × Filled (ScopeAt l.config l.written.class_table.items) l.written.scopes.items l.scopes.items l.place
