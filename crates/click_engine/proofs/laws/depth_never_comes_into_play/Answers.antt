use Rattle.click_engine.proofs.OfRuns.PullDepth.{pull-slack}
use Rattle.click_engine.proofs.OfRuns.RunStarts.{emitted-deep, asks-deep, asked-deep, sourced-deep}
use Rattle.click_engine.proofs.OfRuns.PushDepth.{push-slack}
use Rattle.click_engine.proofs.laws.depth_never_comes_into_play.Goals as goal

pub returns : goal.returns
returns c = record { push = push-slack; pull = pull-slack; emitted = emitted-deep; asks = asks-deep; after_pull = asked-deep; sourced = sourced-deep }
