use Rattle.click_router.specs.Swap.{installed}
use Rattle.click_router.proofs.OfCalls.RefusedSwaps.{swap_refused}
use Rattle.click_desk.proofs.RefusedSwaps.{list_refused, quiet_refused}
use Rattle.click_desk.proofs.logged_router.swap.Goals as goal

pub returns-else-is_err-clause-swaps : goal.returns-else-is_err-clause-swaps
returns-else-is_err-clause-swaps g c = rw (c.install.ensures, c.of.ensures) (installed c.in-Ok.prepared c.in-Ok.ensures.opened)

pub returns-in-Err-clause-swaps : goal.returns-in-Err-clause-swaps
returns-in-Err-clause-swaps g c = swap_refused c.args.router.now c.args.text.now c.in-Err.outcome c.in-Err.ensures.refused

pub returns-in-Err-clause-list : goal.returns-in-Err-clause-list
returns-in-Err-clause-list g c = list_refused c.args.published.now.list c.args.text.now c.in-Err.outcome c.in-Err.ensures.refused

pub returns-in-Err-clause-quiet : goal.returns-in-Err-clause-quiet
returns-in-Err-clause-quiet g c = quiet_refused c.args.text.now c.in-Err.outcome c.in-Err.ensures.refused
