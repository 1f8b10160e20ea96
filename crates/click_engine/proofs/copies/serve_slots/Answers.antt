use Rattle.std.proofs.Common.{◌≡◌, ◌++◌, arith, rules}
use Rattle.click_engine.proofs.OfFrames.OutputFrames.{served_above}
use Rattle.click_engine.proofs.copies.serve_slots.Goals as goal

pub returns-clause-served : goal.returns-clause-served
returns-clause-served c =
    let parts = c.split_at_mut-below in
    let whole : c.args.slots.now ≡ parts.result.0.now ++ parts.result.1.now = search rules in
    served_above _ _ _ _ parts.result.0.now parts.result.1.now c.args.top _ _ _ whole (omega (arith, parts.ensures.front_len)) (omega (arith, parts.ensures.front_len, parts.ensures.back_len, c.requires))
    c.index-below-top.is (rw (← c.index-below-top.is) at c.push_copies.ensures.served)
