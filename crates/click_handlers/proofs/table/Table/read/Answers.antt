use Rattle.std.proofs.Common.{◌∙◌}
use Rattle.click_handlers.specs.Names.{read_names}
use Rattle.click_handlers.proofs.RowLists.{read_listed}
use Rattle.click_handlers.proofs.table.Table.read.Goals as goal

pub returns-clause-there : goal.returns-clause-there
unfolding read_names
returns-clause-there g c = c.row_of.ensures.there ∙ read_listed c.args.class c.args.name.now
