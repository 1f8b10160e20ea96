use Rattle.std.proofs.Common.{◌≡◌, ◌++◌, map, take}
use Rattle.click_scopes.specs.kept.Standing.{kept_name}
use Rattle.click_scopes.proofs.written_scopes.push_names.Given as goal

abbrev pub invariant-loop-name : goal.invariant-loop-name
invariant-loop-name l = (l.name-items ≡ l.declaration.names) × (l.written.items ≡ l.fn.written.items ++ map (λ x. kept_name l.declaration l.visible_class x) (take l.name-index l.name-items))
