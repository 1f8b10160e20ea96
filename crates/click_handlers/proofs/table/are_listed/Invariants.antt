use Rattle.std.proofs.Common.{◌≡◌, map, drop, ◌↔◌}
use Rattle.click_handlers.specs.Names.{handled, names_by}
use Rattle.click_handlers.proofs.table.are_listed.Given as goal

abbrev pub invariant-loop-class : goal.invariant-loop-class
invariant-loop-class g l = (map g.R.HandlerRow.handler l.rest ≡ names_by g.R.HandlerRow.names (drop l.class-index l.class-items)) ↔ (map g.R.HandlerRow.handler l.fn.rows ≡ names_by g.R.HandlerRow.names handled)
