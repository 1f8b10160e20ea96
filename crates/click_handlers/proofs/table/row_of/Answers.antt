use Rattle.std.proofs.Common.{sym, ◌∙◌}
use Rattle.click_handlers.proofs.RowLists.{found_row, no_row, same_row}
use Rattle.click_handlers.proofs.table.row_of.Goals as goal

pub returns-then-is_handler-clause-there : goal.returns-then-is_handler-clause-there
returns-then-is_handler-clause-there g c = sym (found_row g.R.HandlerRow.handler c.args.rows.now _ c.args.class c.args.name.now c.loop-row.row-index c.row-item.result c.requires c.loop-row-test.true c.row-item.is (sym c.is_handler.ensures ∙ c.if-is_handler.true))

pub returns-then-is_handler-clause-row : goal.returns-then-is_handler-clause-row
returns-then-is_handler-clause-row g c = same_row _ _ _ (sym c.is_handler.ensures ∙ c.if-is_handler.true)

pub returns-clause-there : goal.returns-clause-there
returns-clause-there g c = sym (no_row g.R.HandlerRow.handler c.args.rows.now _ c.args.class c.args.name.now c.loop-row.row-index c.requires c.loop-row-test.false c.loop-row.invariant)
