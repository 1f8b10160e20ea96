use Rattle.std.proofs.Common.{◌≡◌, ◌-◌, ◌<◌, refl, ap, ◌∙◌, set, ◌++◌, ◌∷◌, [], vec_len, vec_capacity, rules, arith}
use Rattle.click_engine.specs.kept.Slots.{asks_of}
use Rattle.click_engine.proofs.OfFrames.PullTurns.{top_asks, top_fits, tries_moved, tries_begun}
use Rattle.click_engine.proofs.transfer_stack.TransferStack.turn_asking.Goals as goal

pub overflow_sub-top : goal.overflow_sub-top
overflow_sub-top c =
    let m = c.self.inside in
    let some = top_asks _ _ m.sending m.push_frames.items m.asks.items m.answered m.room c.self.view_is c.requires.top refl (omega (arith, c.self.invariant.0, m.push_frames.ok.0)) in
    omega (arith, some, c.len-top.ensures, m.asks.ok.0)

pub index_mut-requires : goal.index_mut-requires
index_mut-requires c =
    let m = c.self.inside in
    let some = top_asks _ _ m.sending m.push_frames.items m.asks.items m.answered m.room c.self.view_is c.requires.top refl (omega (arith, c.self.invariant.0, m.push_frames.ok.0)) in
    omega (arith, some, c.len-top.ensures, m.asks.ok.0)

pub returns-then-pull_result-gt0-clause-turn : goal.returns-then-pull_result-gt0-clause-turn
returns-then-pull_result-gt0-clause-turn c =
    let m = c.self.inside in
    let fit = top_fits _ _ m.sending m.push_frames.items m.asks.items m.answered m.room c.self.view_is c.requires.top refl (omega (arith, c.self.invariant.0, m.push_frames.ok.0)) c.args.run_memory.now.left c.requires.room in
    let spent = c.pull_over-pull_result.ensures.reached.spends c.if-pull_result-gt0.true in
    let room : vec_len m.asks < vec_capacity m.asks = omega (arith, fit, spent, c.self.invariant.3, m.asks.ok.0) in
    let pushed : c.push-made.new.self.items ≡ set m.asks.items (c.len-top.result - 1) c.waiting_frame.result ++ c.tries.result ∷ [] = search rules in
    tries_begun _ _ _ _ _ m.sending m.push_frames.items m.asks.items m.answered m.room c.len-top.result c.self.view_is c.requires.top refl
    (omega (arith, c.self.invariant.0, m.push_frames.ok.0)) (omega (arith, c.self.invariant.1, m.push_frames.ok.0)) c.requires.room (c.len-top.ensures ∙ m.asks.ok.0)
    c.args.input_scan.at c.args.input_scan.inputs c.args.input_scan.count c.args.input_scan.input c.args.input_scan.back refl _ c.pull_over-pull_result.result c.pull_over-pull_result.ensures.reached c.requires.unanswered c.requires.more
    _ (ap asks_of c.waiting_frame.ensures ∙ c.move_on.ensures.moved) _ _ pushed c.tries.ensures c.if-pull_result-gt0.true

pub returns-else-pull_result-gt0-clause-turn : goal.returns-else-pull_result-gt0-clause-turn
returns-else-pull_result-gt0-clause-turn c =
    let m = c.self.inside in
    tries_moved _ _ _ _ _ m.sending m.push_frames.items m.asks.items m.answered m.room c.len-top.result c.self.view_is c.requires.top refl
    (omega (arith, c.self.invariant.0, m.push_frames.ok.0)) (omega (arith, c.self.invariant.1, m.push_frames.ok.0)) c.requires.room (c.len-top.ensures ∙ m.asks.ok.0)
    c.args.input_scan.at c.args.input_scan.inputs c.args.input_scan.count c.args.input_scan.input c.args.input_scan.back refl _ c.pull_over-pull_result.result c.pull_over-pull_result.ensures.reached c.requires.unanswered c.requires.more
    _ (ap asks_of c.waiting_frame.ensures ∙ c.move_on.ensures.moved) (omega arith)
