use Rattle.std.proofs.Common.{refl}
use Rattle.click_links.proofs.TurnSequences.{rounds_forward, until_forward}
use Rattle.click_links.proofs.sweeping.sweep.Goals as goal

pub returns-in_err-rounds-clause-forwards : goal.returns-in_err-rounds-clause-forwards
returns-in_err-rounds-clause-forwards g c =
    rounds_forward _ _ _ _ _ _ _ _ c.forward_each.ensures.forwards c.in_err-rounds.ensures.err.1 refl

pub returns-clause-forwards : goal.returns-clause-forwards
returns-clause-forwards g c =
    until_forward _ _ _ _ _ _ _ _ c.forward_each.ensures.forwards c.in_ok-rounds.ensures.ok
