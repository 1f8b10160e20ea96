use Rattle.std.proofs.Common.{◌≡◌, map, take}
use Rattle.click_router.proofs.install.ElementIndex.names.Given as goal

abbrev pub invariant-loop-name : goal.invariant-loop-name
invariant-loop-name l = map (λ n. n.items) l.names.items ≡ take l.name-index l.name-items
