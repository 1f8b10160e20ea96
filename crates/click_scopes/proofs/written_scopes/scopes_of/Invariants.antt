use Rattle.std.proofs.Common.{◌+◌, ◌-◌, length}
use Rattle.click_scopes.proofs.OfBodies.ScopeWalk.{Walked}
use Rattle.click_scopes.proofs.written_scopes.scopes_of.Given as goal

abbrev pub invariant-loop-nested_body : goal.invariant-loop-nested_body
invariant-loop-nested_body l = Walked l.config l.class_table.items l.nested_bodies.items l.scopes.items

abbrev pub decreases-loop-nested_body : goal.decreases-loop-nested_body
decreases-loop-nested_body l = length l.config.bodies + 1 - length l.scopes.items
