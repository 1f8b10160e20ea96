use Rattle.std.proofs.Common.{◌≡◌, ◌<◌, ◌++◌, ◌∷◌, [], vec_len, vec_capacity, refl, ap, ◌∙◌, length, take, arith, rules}
use Rattle.click_engine.specs.Frames.{TransferStack}
use Rattle.click_engine.proofs.OfFrames.SlotFrames.{no_asks}
use Rattle.click_engine.proofs.OfFrames.PulledInputs.{two_fit, asked_gives, asked_sends, asked_waits, asked_nothing}
use Rattle.click_engine.proofs.OfFrames.FirstFrames.{still_done}
use Rattle.click_engine.proofs.transfer_stack.TransferStack.ask_inputs.Goals as goal

pub returns-then-given-gt0-clause-follows : goal.returns-then-given-gt0-clause-follows
returns-then-given-gt0-clause-follows c =
    let m = c.self.inside in
    asked_sends _ m.sending m.push_frames.items m.asks.items m.answered m.room c.self.view_is c.requires.done (omega (arith, c.self.invariant.0, m.push_frames.ok.0)) (omega (arith, c.self.invariant.1, m.push_frames.ok.0))
    _ _ _ _ _ _ _ c.ask_until_answer-further.ensures.asked c.requires.room _ c.if-further.true _ c.gives-given.result.copies c.gives-given.result.answers c.gives-given.ensures.gives (omega arith) refl refl refl

pub returns-then-further-clause-follows : goal.returns-then-further-clause-follows
returns-then-further-clause-follows c =
    let m = c.self.inside in
    asked_gives _ m.sending m.push_frames.items m.asks.items m.answered m.room c.self.view_is c.requires.done (omega (arith, c.self.invariant.0, m.push_frames.ok.0)) (omega (arith, c.self.invariant.1, m.push_frames.ok.0))
    _ _ _ _ _ _ _ c.ask_until_answer-further.ensures.asked c.requires.room _ c.if-further.true _ c.gives-given.result.copies c.gives-given.result.answers c.gives-given.ensures.gives (omega arith)

pub returns-then-further-gt0-clause-follows : goal.returns-then-further-gt0-clause-follows
returns-then-further-gt0-clause-follows c =
    let m = c.self.inside in
    let none = no_asks (take m.sending m.push_frames.items) m.asks.items (ap (λ (s : TransferStack). s.frames) c.self.view_is ∙ c.requires.done) in
    let two = two_fit _ _ _ _ _ _ _ c.ask_until_answer-further.ensures.asked _ c.requires.room (omega (arith, c.if-further-gt0.true)) in
    let room : 1 < vec_capacity m.asks = omega (arith, two, c.self.invariant.3, ap (λ (s : TransferStack). s.room) c.self.view_is) in
    let one : vec_len m.asks ≡ 0 = m.asks.ok.0 ∙ ap length none in
    let pushed : c.push-made.new.self.items ≡ (m.asks.items ++ c.waiting_frame.result ∷ []) ++ c.tries.result ∷ [] = search rules in
    asked_waits _ m.sending m.push_frames.items m.asks.items m.answered m.room c.self.view_is c.requires.done (omega (arith, c.self.invariant.0, m.push_frames.ok.0)) (omega (arith, c.self.invariant.1, m.push_frames.ok.0))
    _ _ _ _ _ _ _ c.ask_until_answer-further.ensures.asked c.requires.room _ (omega (arith, c.if-further-gt0.true)) _ _ _ pushed c.waiting_frame.ensures c.tries.ensures

pub returns-clause-follows : goal.returns-clause-follows
returns-clause-follows c =
    let m = c.self.inside in
    asked_nothing _ m.sending m.push_frames.items m.asks.items m.answered m.room c.self.view_is c.requires.done (omega (arith, c.self.invariant.0, m.push_frames.ok.0)) (omega (arith, c.self.invariant.1, m.push_frames.ok.0))
    _ _ _ _ _ _ _ c.ask_until_answer-further.ensures.asked c.requires.room _ c.if-further.false (omega (arith, c.if-further-gt0.false))

pub returns-then-further-clause-over : goal.returns-then-further-clause-over
returns-then-further-clause-over c = λ none.
    let m = c.self.inside in
    still_done _ m.sending m.push_frames.items m.asks.items m.answered m.room c.self.view_is c.requires.done (omega (arith, c.self.invariant.0, m.push_frames.ok.0)) _

pub returns-clause-over : goal.returns-clause-over
returns-clause-over c = λ none.
    let m = c.self.inside in
    still_done _ m.sending m.push_frames.items m.asks.items m.answered m.room c.self.view_is c.requires.done (omega (arith, c.self.invariant.0, m.push_frames.ok.0)) _
