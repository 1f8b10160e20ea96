use Rattle.std.proofs.Common.{◌∙◌}
use Rattle.click_handlers.proofs.RowLists.{among}
use Rattle.click_handlers.proofs.names.has_read.Goals as goal

pub returns : goal.returns
returns c = c.is_among.ensures ∙ among (λ n. n.now) c.reads_of.result.now _ c.args.name.now c.reads_of.ensures
