use Rattle.std.proofs.Common.{refl}
use Rattle.click_engine.proofs.OfRuns.TeePushes.{push-tee}
use Rattle.click_engine.proofs.laws.tee_pushes_alike.Goals as goal

pub returns : goal.returns
returns c = record { pushes = push-tee; in_order = λ net depth w at first count p. refl; at_last = λ net depth w at first p. refl }
