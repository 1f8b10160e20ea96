use Rattle.std.proofs.Common.{◌∙◌, ap}
use Rattle.click_engine.specs.Plant.{Plant}
use Rattle.click_ports.specs.Net.{Net}
use Rattle.click_router.proofs.OfCalls.UnchangedParts.{arrivals-net}
use Rattle.click_router.proofs.running.RunningConfig.poll.Goals as goal

pub invariant_of-self : goal.invariant_of-self
invariant_of-self c =
    ap (λ (v : Plant). v.net.names) c.enter_all.ensures ∙ ap (λ (n : Net). n.names) (arrivals-net c.self.inside.plant c.args.device.now c.args.taken.now) ∙ c.self.invariant
