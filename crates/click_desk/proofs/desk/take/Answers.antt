use Rattle.click_desk.proofs.QueueMoves.{takes}
use Rattle.click_desk.proofs.desk.take.Goals as goal

pub try_pop_as-requires-clause-rule : goal.try_pop_as-requires-clause-rule
try_pop_as-requires-clause-rule g c = takes _ _ c.requires.opened
