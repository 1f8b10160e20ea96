use Rattle.click_engine.proofs.OfInvariants.PlantOrder.{push-in-order, pull-in-order}
use Rattle.click_engine.proofs.OfRuns.RunPorts.{none-missed-by-push, none-missed-by-pull}
use Rattle.click_engine.proofs.laws.runs_never_miss_an_element.Goals as goal

pub returns : goal.returns
returns c = record { push = none-missed-by-push; pull = none-missed-by-pull; after_push = push-in-order; after_pull = pull-in-order }
