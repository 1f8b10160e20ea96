use Rattle.std.proofs.Common.{◌≡◌, ◌++◌, length, take, codes, decimal}
use Rattle.click_expand.specs.declared.flat.FlatElement.{FlatElement}
use Rattle.click_router.specs.Globals.{lines_of}
use Rattle.click_router.proofs.globals.list_text.Given as goal

abbrev pub invariant-loop-element : goal.invariant-loop-element
invariant-loop-element l = l.text.items ≡ (decimal (length l.elements) ++ codes "\n") ++ lines_of (λ (e : FlatElement). e.name) (take l.element-index l.elements)
