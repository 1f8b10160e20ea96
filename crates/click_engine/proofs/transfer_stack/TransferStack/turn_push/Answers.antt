use Rattle.std.proofs.Common.{inl, inr, refl, arith}
use Rattle.click_engine.specs.Adjacency.{run_state_of}
use Rattle.click_engine.proofs.OfFrames.PushTurns.{some_sending, sending_fits, push_ended, push_taken, push_last, push_moved, push_begun}
use Rattle.click_engine.proofs.transfer_stack.TransferStack.turn_push.Goals as goal

pub overflow_sub-top : goal.overflow_sub-top
overflow_sub-top c = let m = c.self.inside in some_sending _ m.sending m.push_frames.items m.asks.items m.answered m.room c.self.view_is c.requires.some

pub returns-then-push_frame-eq0-clause-turn : goal.returns-then-push_frame-eq0-clause-turn
returns-then-push_frame-eq0-clause-turn c =
    let m = c.self.inside in
    push_ended _ _ (run_state_of c.args.run_memory.now) _ m.sending m.push_frames.items m.asks.items m.answered m.room c.self.view_is c.requires.some (omega (arith, c.self.invariant.0, c.self.inside.push_frames.ok.0)) c.requires.room _ c.index_mut-push_frame.ensures.value c.if-push_frame-eq0.true

pub copy_up-requires-clause-room : goal.copy_up-requires-clause-room
copy_up-requires-clause-room c =
    let m = c.self.inside in
    let fits = sending_fits _ m.sending m.push_frames.items m.asks.items m.answered m.room c.args.run_memory.now.left c.self.view_is (omega (arith, c.self.invariant.0, c.self.inside.push_frames.ok.0)) c.requires.room in
    let some = some_sending _ m.sending m.push_frames.items m.asks.items m.answered m.room c.self.view_is c.requires.some in
    omega (arith, fits, some, c.self.invariant.2)

pub returns-then-push_frame-gt0-clause-turn : goal.returns-then-push_frame-gt0-clause-turn
returns-then-push_frame-gt0-clause-turn c =
    let m = c.self.inside in
    push_taken _ _ _ _ m.sending m.push_frames.items m.asks.items m.answered m.room c.self.view_is c.requires.some (omega (arith, c.self.invariant.0, c.self.inside.push_frames.ok.0)) c.requires.room _ c.index_mut-push_frame.ensures.value
    _ c.push_over.ensures.pushed c.if-push_frame-eq1.true (elim c.if-top-gt0.either [ inl e ↦ inr e | inr h ↦ inl h.1 ]) c.if-push_frame-gt0.true

pub returns-then-top-gt0-clause-turn : goal.returns-then-top-gt0-clause-turn
returns-then-top-gt0-clause-turn c =
    let m = c.self.inside in
    push_last _ _ _ _ m.sending m.push_frames.items m.asks.items m.answered m.room c.self.view_is c.requires.some (omega (arith, c.self.invariant.0, c.self.inside.push_frames.ok.0)) c.requires.room _ c.index_mut-push_frame.ensures.value
    _ c.push_over.ensures.pushed c.if-push_frame-eq1.true (elim c.if-top-gt0.either [ inl e ↦ inr e | inr h ↦ inl h.1 ]) (omega arith)

pub returns-then-above-gt0-clause-turn : goal.returns-then-above-gt0-clause-turn
returns-then-above-gt0-clause-turn c =
    let m = c.self.inside in
    push_begun _ _ _ _ m.sending m.push_frames.items m.asks.items m.answered m.room c.self.view_is c.requires.some (omega (arith, c.self.invariant.0, c.self.inside.push_frames.ok.0)) c.requires.room _ c.index_mut-push_frame.ensures.value
    _ refl refl refl refl (omega arith) _ c.copy_up.ensures.copied _ c.index_mut-above.ensures.value _ c.push_over-2.ensures.pushed c.if-above-gt0.true

pub returns-else-above-gt0-clause-turn : goal.returns-else-above-gt0-clause-turn
returns-else-above-gt0-clause-turn c =
    let m = c.self.inside in
    push_moved _ _ _ _ m.sending m.push_frames.items m.asks.items m.answered m.room c.self.view_is c.requires.some (omega (arith, c.self.invariant.0, c.self.inside.push_frames.ok.0)) c.requires.room _ c.index_mut-push_frame.ensures.value
    _ refl refl refl refl (omega arith) _ c.copy_up.ensures.copied _ c.index_mut-above.ensures.value _ c.push_over-2.ensures.pushed (omega arith)
