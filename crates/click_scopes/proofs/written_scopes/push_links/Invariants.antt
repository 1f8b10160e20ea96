use Rattle.std.proofs.Common.{◌≡◌, ◌++◌, map, take}
use Rattle.click_scopes.specs.kept.Standing.{kept_link}
use Rattle.click_scopes.proofs.written_scopes.push_links.Given as goal

abbrev pub invariant-loop-link : goal.invariant-loop-link
invariant-loop-link l = l.written.items ≡ l.fn.written.items ++ map (λ x. kept_link l.visible_class x) (take l.link-index l.links)
