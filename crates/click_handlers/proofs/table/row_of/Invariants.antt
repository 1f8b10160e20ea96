use Rattle.std.proofs.Common.{◌≡◌, false, take}
use Rattle.std.specs.List.{list_any}
use Rattle.click_handlers.specs.Names.{is_named}
use Rattle.click_handlers.proofs.table.row_of.Given as goal

abbrev pub invariant-loop-row : goal.invariant-loop-row
invariant-loop-row g l = list_any (λ r. is_named l.fn.class l.fn.name (g.R.HandlerRow.handler r)) (take l.row-index l.rows) ≡ false
