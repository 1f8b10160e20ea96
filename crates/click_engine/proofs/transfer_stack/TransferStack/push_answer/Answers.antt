use Rattle.std.proofs.Common.{arith}
use Rattle.click_engine.proofs.OfFrames.FirstFrames.{answer_ended, answer_pushed, none_left, some_left, still_done}
use Rattle.click_engine.proofs.transfer_stack.TransferStack.push_answer.Goals as goal

pub returns-then-several-clause-follows : goal.returns-then-several-clause-follows
returns-then-several-clause-follows c =
    let m = c.self.inside in
    answer_pushed _ m.sending m.push_frames.items m.asks.items m.answered m.room c.self.view_is c.requires.done _ _ _ _ _ _ c.index_mut-push_frame.ensures.value (c.push_slot-several.ensures.along c.args.at 0 c.first_target.ensures.target) c.requires.room
    (omega (arith, c.self.invariant.0, m.push_frames.ok.0)) (omega (arith, c.self.invariant.1, m.push_frames.ok.0)) (some_left _ _ c.push_slot-several.ensures.several c.if-several.true)

pub returns-else-several-clause-follows : goal.returns-else-several-clause-follows
returns-else-several-clause-follows c =
    let m = c.self.inside in
    answer_ended _ m.sending m.push_frames.items m.asks.items m.answered m.room c.self.view_is c.requires.done _ _ _ _ _ _ c.index_mut-push_frame.ensures.value (c.push_slot-several.ensures.along c.args.at 0 c.first_target.ensures.target) c.requires.room
    (omega (arith, c.self.invariant.0, m.push_frames.ok.0)) (omega (arith, c.self.invariant.1, m.push_frames.ok.0)) (none_left _ _ c.push_slot-several.ensures.several c.if-several.false)

pub returns-else-several-clause-over : goal.returns-else-several-clause-over
returns-else-several-clause-over c = λ none.
    let m = c.self.inside in
    still_done _ m.sending m.push_frames.items m.asks.items m.answered m.room c.self.view_is c.requires.done (omega (arith, c.self.invariant.0, m.push_frames.ok.0)) _
