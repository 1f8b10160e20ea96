use Rattle.click_router.proofs.OfCalls.SameNames.{counts_on, stands_on}
use Rattle.click_router.proofs.laws.counters_and_switches_go_on.Goals as goal

pub returns : goal.returns
returns c = record { counter = counts_on; switch = stands_on }
