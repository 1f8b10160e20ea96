use Rattle.std.proofs.Common.{[], rules, refl, sym, ◌∙◌}
use Rattle.click_handlers.specs.Names.{of_class}
use Rattle.click_handlers.proofs.RowLists.{next_row, other_row, no_next_row, same_row}
use Rattle.click_handlers.proofs.table.behind.Goals as goal

pub returns-in_err-row-clause-none : goal.returns-in_err-row-clause-none
returns-in_err-row-clause-none g c = rw c.from_residual.ensures (λ more e. no_next_row g.R.HandlerRow.handler (λ n. of_class c.args.class n.now) c.loop-name.rest.now c.args.names.now c.loop-name.name-index (record { ref_ptr = (0, 0); now = [] }) more (search rules) c.loop-name-test.true ((c.loop-name.invariant more).1 e))

pub returns-then-not-is_handler-clause-none : goal.returns-then-not-is_handler-clause-none
returns-then-not-is_handler-clause-none g c more e =
    other_row g.R.HandlerRow.handler (λ n. of_class c.args.class n.now) c.loop-name.rest.now c.in_ok-row.others.now c.in_ok-row.row.now c.args.names.now c.loop-name.name-index (record { ref_ptr = (0, 0); now = [] }) _ more (search rules) c.loop-name-test.true refl (sym c.is_handler.ensures ∙ c.if-not-is_handler.true) ((c.loop-name.invariant more).1 e)

pub loop-name-preserved : goal.loop-name-preserved
loop-name-preserved g c more =
    next_row g.R.HandlerRow.handler (λ n. of_class c.args.class n.now) c.loop-name.rest.now c.in_ok-row.others.now c.in_ok-row.row.now c.args.names.now c.loop-name.name-index (record { ref_ptr = (0, 0); now = [] }) _ more _ (search rules) c.loop-name-test.true refl (same_row _ _ _ (sym c.is_handler.ensures ∙ c.if-not-is_handler.false)) (c.loop-name.invariant more)
