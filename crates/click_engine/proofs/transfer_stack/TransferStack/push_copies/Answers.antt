use Rattle.std.proofs.Common.{arith}
use Rattle.click_engine.proofs.OfFrames.OutputFrames.{above_ended, above_begun}
use Rattle.click_engine.proofs.transfer_stack.TransferStack.push_copies.Goals as goal

pub returns-then-index-gt0-clause-follows : goal.returns-then-index-gt0-clause-follows
returns-then-index-gt0-clause-follows c =
    let m = c.self.inside in
    above_begun _ _ _ _ m.sending m.push_frames.items m.asks.items m.answered m.room c.self.view_is (omega arith) (omega (arith, c.self.invariant.0, m.push_frames.ok.0)) c.requires.room
    _ _ c.make_above.ensures.below c.serve_above.ensures.served _ _ c.index.ensures c.index-2.ensures c.if-index-gt0.true

pub returns-else-index-gt0-clause-follows : goal.returns-else-index-gt0-clause-follows
returns-else-index-gt0-clause-follows c =
    let m = c.self.inside in
    above_ended _ _ _ _ m.sending m.push_frames.items m.asks.items m.answered m.room c.self.view_is (omega arith) (omega (arith, c.self.invariant.0, m.push_frames.ok.0)) c.requires.room
    _ _ c.make_above.ensures.below c.serve_above.ensures.served _ _ c.index.ensures c.index-2.ensures (omega (arith, c.if-index-gt0.false))
