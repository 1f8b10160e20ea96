use Rattle.std.proofs.Common.{◌≡◌, map, take}
use Rattle.click_expand.specs.declared.flat.FlatElement.{FlatElement}
use Rattle.click_router.proofs.install.names_of.Given as goal

abbrev pub invariant-loop-element : goal.invariant-loop-element
invariant-loop-element l = l.names.items ≡ map (λ (e : FlatElement). e.name) (take l.element-index l.elements)
