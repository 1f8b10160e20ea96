use Rattle.std.proofs.Common.{◌∙◌}
use Rattle.click_handlers.specs.Names.{write_names}
use Rattle.click_handlers.proofs.RowLists.{write_listed}
use Rattle.click_handlers.proofs.table.Table.write.Goals as goal

pub returns-clause-there : goal.returns-clause-there
unfolding write_names
returns-clause-there g c = c.row_of.ensures.there ∙ write_listed c.args.class c.args.name.now
