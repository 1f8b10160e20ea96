use Rattle.std.proofs.Common.{take}
use Rattle.click_expand.specs.kept.Counted.{IsSum}
use Rattle.click_expand.proofs.instances.sizes.scope_size.Given as goal

abbrev pub invariant-loop-scope_element : goal.invariant-loop-scope_element
invariant-loop-scope_element l = IsSum l.sizes (take l.scope_element-index l.scope_elements) l.all
