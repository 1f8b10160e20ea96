use Rattle.click_engine.proofs.OfRuns.PushCosts.{push-within, push-spends, arrive-cost}
use Rattle.click_engine.proofs.laws.short_ways_never_overrun.Goals as goal

pub returns : goal.returns
returns c = record { push = push-within; spends = push-spends; arrive = arrive-cost }
