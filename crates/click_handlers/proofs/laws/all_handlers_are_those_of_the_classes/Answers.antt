use Rattle.click_handlers.proofs.RowLists.{read_listed_outside, write_listed_outside}
use Rattle.click_handlers.proofs.laws.all_handlers_are_those_of_the_classes.Goals as goal

pub returns-clause-reads : goal.returns-clause-reads
returns-clause-reads c = read_listed_outside

pub returns-clause-writes : goal.returns-clause-writes
returns-clause-writes c = write_listed_outside
