use Rattle.std.proofs.Common.{◌≡◌, ◌++◌, map, drop}
use Rattle.click_scopes.specs.Scopes.{link_bodies}
use Rattle.click_scopes.specs.kept.Standing.{nested_body}
use Rattle.click_scopes.proofs.written_scopes.push_link_nested_bodies.Given as goal

abbrev pub invariant-loop-link : goal.invariant-loop-link
invariant-loop-link l = l.nested_bodies.items ++ map (nested_body l.parent l.visible_class) (link_bodies (drop l.link-index l.links)) ≡ l.fn.nested_bodies.items ++ map (nested_body l.parent l.visible_class) (link_bodies l.links)
