use Rattle.std.proofs.Common.{refl, ◌∙◌, arith}
use Rattle.click_engine.proofs.OfFrames.PullTurns.{top_asks, pull_ended, pull_asks}
use Rattle.click_engine.proofs.transfer_stack.TransferStack.turn_waiting.Goals as goal

pub overflow_sub-top : goal.overflow_sub-top
overflow_sub-top c =
    let m = c.self.inside in
    let some = top_asks _ _ m.sending m.push_frames.items m.asks.items m.answered m.room c.self.view_is c.requires.top refl (omega (arith, c.self.invariant.0, m.push_frames.ok.0)) in
    omega (arith, some, c.len-top.ensures, m.asks.ok.0)

pub index_mut-requires : goal.index_mut-requires
index_mut-requires c =
    let m = c.self.inside in
    let some = top_asks _ _ m.sending m.push_frames.items m.asks.items m.answered m.room c.self.view_is c.requires.top refl (omega (arith, c.self.invariant.0, m.push_frames.ok.0)) in
    omega (arith, some, c.len-top.ensures, m.asks.ok.0)

pub returns-then-pull_result-gt0-clause-turn : goal.returns-then-pull_result-gt0-clause-turn
returns-then-pull_result-gt0-clause-turn c =
    let m = c.self.inside in
    pull_asks _ _ _ _ _ m.sending m.push_frames.items m.asks.items m.answered m.room c.len-top.result c.self.view_is c.requires.top refl
    (omega (arith, c.self.invariant.0, m.push_frames.ok.0)) (omega (arith, c.self.invariant.1, m.push_frames.ok.0)) c.requires.room (c.len-top.ensures ∙ m.asks.ok.0)
    c.args.at c.args.input refl _ c.pull_over-pull_result.result c.pull_over-pull_result.ensures.reached _ c.tries.ensures c.if-pull_result-gt0.true

pub returns-else-pull_result-gt0-clause-turn : goal.returns-else-pull_result-gt0-clause-turn
returns-else-pull_result-gt0-clause-turn c =
    let m = c.self.inside in
    pull_ended _ _ _ _ _ m.sending m.push_frames.items m.asks.items m.answered m.room c.len-top.result c.self.view_is c.requires.top refl
    (omega (arith, c.self.invariant.0, m.push_frames.ok.0)) (omega (arith, c.self.invariant.1, m.push_frames.ok.0)) c.requires.room (c.len-top.ensures ∙ m.asks.ok.0)
    c.args.at c.args.input refl _ c.pull_over-pull_result.result c.pull_over-pull_result.ensures.reached _ c.truncate.ensures.items (omega arith)
