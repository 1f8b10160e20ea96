use Rattle.click_engine.proofs.OfRuns.Crossings.{along_on, pushed_along}
use Rattle.click_engine.proofs.transfers.push_copy.Goals as goal

pub returns-clause-along : goal.returns-clause-along
returns-clause-along c = λ at output joined. along_on _ _ _ _ _ _ _ _ _ _ _ _ _ _ _
    (pushed_along _ _ _ _ _ _ _ _ _ _ (c.push_into.ensures.pushed c.args.adjacency.now at output joined c.requires.circuit)) c.push_along.ensures.along c.push_along.ensures.none
