use Rattle.std.proofs.Common.{◌≡◌, refl, ◌∙◌, length, min, arith}
use Rattle.click_engine.specs.Adjacency.{run_state_of}
use Rattle.click_engine.proofs.OfPlants.BlankElement.{gives_clamped}
use Rattle.click_engine.proofs.OfPlants.LastElement.{but_last_length}
use Rattle.click_engine.proofs.OfFrames.PullTurns.{top_asks, tries_given, tries_sends}
use Rattle.click_engine.proofs.transfer_stack.TransferStack.turn_answered.Goals as goal

pub overflow_sub-top : goal.overflow_sub-top
overflow_sub-top c =
    let m = c.self.inside in
    let some = top_asks _ _ m.sending m.push_frames.items m.asks.items m.answered m.room c.self.view_is c.requires.top refl (omega (arith, c.self.invariant.0, m.push_frames.ok.0)) in
    omega (arith, some, c.len-top.ensures, m.asks.ok.0)

pub returns-then-given-gt0-clause-turn : goal.returns-then-given-gt0-clause-turn
returns-then-given-gt0-clause-turn c =
    let m = c.self.inside in
    let r = c.args.run_memory.now in
    let clamped : c.clamped-at.result ≡ min c.args.input_scan.at (length (run_state_of r).elements) = omega (arith, c.clamped-at.ensures, but_last_length r.elements.items r.blank, r.elements.ok.0) in
    let given = gives_clamped (run_state_of r) (run_state_of c.gives-given.new.self) c.clamped-at.result c.args.input_scan.at _ _ _ _ _ clamped c.gives-given.ensures.gives in
    λ net. tries_sends net _ _ _ _ m.sending m.push_frames.items m.asks.items m.answered m.room c.len-top.result c.self.view_is c.requires.top refl
    (omega (arith, c.self.invariant.0, m.push_frames.ok.0)) (omega (arith, c.self.invariant.1, m.push_frames.ok.0)) c.requires.room (c.len-top.ensures ∙ m.asks.ok.0)
    c.args.input_scan.at c.args.input_scan.inputs c.args.input_scan.count c.args.input_scan.input c.args.input_scan.back refl
    _ c.index_mut-push_frame.ensures.value c.requires.answered _ c.gives-given.result.copies c.gives-given.result.answers given _ c.truncate.ensures.items (omega arith) refl refl refl

pub returns-else-given-gt0-clause-turn : goal.returns-else-given-gt0-clause-turn
returns-else-given-gt0-clause-turn c =
    let m = c.self.inside in
    let r = c.args.run_memory.now in
    let clamped : c.clamped-at.result ≡ min c.args.input_scan.at (length (run_state_of r).elements) = omega (arith, c.clamped-at.ensures, but_last_length r.elements.items r.blank, r.elements.ok.0) in
    let given = gives_clamped (run_state_of r) (run_state_of c.gives-given.new.self) c.clamped-at.result c.args.input_scan.at _ _ _ _ _ clamped c.gives-given.ensures.gives in
    λ net. tries_given net _ _ _ _ m.sending m.push_frames.items m.asks.items m.answered m.room c.len-top.result c.self.view_is c.requires.top refl
    (omega (arith, c.self.invariant.0, m.push_frames.ok.0)) (omega (arith, c.self.invariant.1, m.push_frames.ok.0)) c.requires.room (c.len-top.ensures ∙ m.asks.ok.0)
    c.args.input_scan.at c.args.input_scan.inputs c.args.input_scan.count c.args.input_scan.input c.args.input_scan.back refl
    _ c.index_mut-push_frame.ensures.value c.requires.answered _ c.gives-given.result.copies c.gives-given.result.answers given _ c.truncate.ensures.items (omega arith)
