use Rattle.std.proofs.Common.{◌∙◌, ap}
use Rattle.click_engine.specs.Plant.{Plant}
use Rattle.click_ports.specs.Net.{Net}
use Rattle.click_router.proofs.OfCalls.UnchangedParts.{round-net}
use Rattle.click_router.proofs.running.RunningConfig.round.Goals as goal

pub invariant_of-self : goal.invariant_of-self
invariant_of-self c = ap (λ (v : Plant). v.net.names) c.round.ensures.plant ∙ ap (λ (n : Net). n.names) (round-net c.self.inside.plant) ∙ c.self.invariant
