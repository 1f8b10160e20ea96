use Rattle.std.proofs.Common.{arith}
use Rattle.click_engine.proofs.OfNames.NearNames.{near_full}
use Rattle.click_engine.proofs.device_names.add_unindexed.Goals as goal

pub returns-then-len-ge-MAX_UNINDEXED-clause-added : goal.returns-then-len-ge-MAX_UNINDEXED-clause-added
returns-then-len-ge-MAX_UNINDEXED-clause-added c = near_full _ _ (omega arith)
