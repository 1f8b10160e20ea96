use Rattle.click_router.specs.Swap.{installed}
use Rattle.click_router.proofs.OfCalls.RefusedSwaps.{swap_refused}
use Rattle.click_router.proofs.running.RunningConfig.swap.Goals as goal

pub returns-in-Ok-clause-swaps : goal.returns-in-Ok-clause-swaps
returns-in-Ok-clause-swaps c = rw (c.install.ensures, c.of.ensures) (installed c.in-Ok.prepared c.in-Ok.ensures.opened)

pub returns-in-Err-clause-swaps : goal.returns-in-Err-clause-swaps
returns-in-Err-clause-swaps c = swap_refused c.args.self.now c.args.text.now c.in-Err.outcome c.in-Err.ensures.refused
