use Rattle.std.proofs.Common.{arith}
use Rattle.click_engine.proofs.OfNames.NearNames.{are_one}
use Rattle.click_engine.proofs.device_names.is_name.Goals as goal

pub returns : goal.returns
returns c = are_one _ _ (omega arith) (λ i h. c.loop-at.invariant i (omega arith))
