use Rattle.std.proofs.Common.{inl, inr, arith}
use Rattle.click_engine.proofs.OfFrames.PushFrames.{follow_kept, follow_ended}
use Rattle.click_engine.proofs.transfer_stack.TransferStack.push_last.Goals.{else-top-eq0-via-then-top-eq0+else-self, else-top-eq0-via-else-top-eq0}
use Rattle.click_engine.proofs.transfer_stack.TransferStack.push_last.Goals as goal

pub returns-then-push_frame-eq0-clause-follows : goal.returns-then-push_frame-eq0-clause-follows
returns-then-push_frame-eq0-clause-follows c =
    let m = c.self.inside in
    follow_ended _ _ _ _ m.sending m.push_frames.items m.asks.items m.answered m.room c.self.view_is (omega arith) (omega (arith, c.self.invariant.0, m.push_frames.ok.0)) c.requires.room
    _ c.index_mut-push_frame.ensures.value _ c.push_along.ensures.along
    (elim c.else-top-eq0.branch [ else-top-eq0-via-then-top-eq0+else-self w ↦ inr w.if-self.false | else-top-eq0-via-else-top-eq0 w ↦ inl (omega (arith, w.if-top-eq0.false)) ]) c.if-push_frame-eq0.true

pub returns-else-push_frame-eq0-clause-follows : goal.returns-else-push_frame-eq0-clause-follows
returns-else-push_frame-eq0-clause-follows c =
    let m = c.self.inside in
    follow_kept _ _ _ _ m.sending m.push_frames.items m.asks.items m.answered m.room c.self.view_is (omega arith) (omega (arith, c.self.invariant.0, m.push_frames.ok.0)) c.requires.room
    _ c.index_mut-push_frame.ensures.value _ c.push_along.ensures.along
    (elim c.else-top-eq0.branch [ else-top-eq0-via-then-top-eq0+else-self w ↦ inr w.if-self.false | else-top-eq0-via-else-top-eq0 w ↦ inl (omega (arith, w.if-top-eq0.false)) ])
