use Rattle.std.proofs.Common.{◌≡◌, ◌++◌, List, map, drop, ◌↔◌}
use Rattle.click_handlers.specs.Names.{HandlerName, of_class}
use Rattle.click_handlers.proofs.table.behind.Given as goal

abbrev pub invariant-loop-name : goal.invariant-loop-name
invariant-loop-name g l = (more : List HandlerName) → (map g.R.HandlerRow.handler l.rest ≡ map (λ n. of_class l.fn.class n.now) (drop l.name-index l.names) ++ more)
    ↔ (map g.R.HandlerRow.handler l.fn.rows ≡ map (λ n. of_class l.fn.class n.now) l.names ++ more)
