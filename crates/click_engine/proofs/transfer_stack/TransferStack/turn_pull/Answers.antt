use Rattle.std.proofs.Common.{refl, ap, ◌∙◌, ◌∷◌, [], arith}
use Rattle.click_engine.specs.Adjacency.{run_state_of, wiring_of}
use Rattle.click_engine.specs.kept.Slots.{asks_of}
use Rattle.click_engine.proofs.OfFrames.PullTurns.{some_asks, read_top, tries_ended}
use Rattle.click_engine.proofs.transfer_stack.TransferStack.turn_pull.Goals as goal

pub overflow_sub-top : goal.overflow_sub-top
overflow_sub-top c =
    let m = c.self.inside in
    let some = some_asks _ m.sending m.push_frames.items m.asks.items m.answered m.room c.self.view_is c.requires.none (omega (arith, c.self.invariant.0, m.push_frames.ok.0)) c.requires.some in
    omega (arith, some, c.len-top.ensures, m.asks.ok.0)

pub index-requires : goal.index-requires
index-requires c =
    let m = c.self.inside in
    let some = some_asks _ m.sending m.push_frames.items m.asks.items m.answered m.room c.self.view_is c.requires.none (omega (arith, c.self.invariant.0, m.push_frames.ok.0)) c.requires.some in
    omega (arith, some, c.len-top.ensures, m.asks.ok.0)

pub turn_waiting-requires-clause-top : goal.turn_waiting-requires-clause-top
turn_waiting-requires-clause-top c =
    let m = c.self.inside in
    read_top _ m.sending m.push_frames.items m.asks.items m.answered m.room c.self.view_is c.requires.none (omega (arith, c.self.invariant.0, m.push_frames.ok.0)) c.len-top.result _ (c.len-top.ensures ∙ m.asks.ok.0) c.index.ensures c.requires.some
    ∙ ap (λ y. asks_of y ∷ []) c.in-Pull.is

pub turn_answered-requires-clause-top : goal.turn_answered-requires-clause-top
turn_answered-requires-clause-top c =
    let m = c.self.inside in
    read_top _ m.sending m.push_frames.items m.asks.items m.answered m.room c.self.view_is c.requires.none (omega (arith, c.self.invariant.0, m.push_frames.ok.0)) c.len-top.result _ (c.len-top.ensures ∙ m.asks.ok.0) c.index.ensures c.requires.some
    ∙ ap (λ y. asks_of y ∷ []) c.in-Tries.is

pub turn_asking-requires-clause-top : goal.turn_asking-requires-clause-top
turn_asking-requires-clause-top c =
    let m = c.self.inside in
    read_top _ m.sending m.push_frames.items m.asks.items m.answered m.room c.self.view_is c.requires.none (omega (arith, c.self.invariant.0, m.push_frames.ok.0)) c.len-top.result _ (c.len-top.ensures ∙ m.asks.ok.0) c.index.ensures c.requires.some
    ∙ ap (λ y. asks_of y ∷ []) c.in-Tries.is

pub returns-then-self-clause-turn : goal.returns-then-self-clause-turn
returns-then-self-clause-turn c = c.turn_answered.ensures.turn (wiring_of c.args.adjacency.now)

pub returns-then-count-eq0-clause-turn : goal.returns-then-count-eq0-clause-turn
returns-then-count-eq0-clause-turn c =
    let m = c.self.inside in
    let top = read_top _ m.sending m.push_frames.items m.asks.items m.answered m.room c.self.view_is c.requires.none (omega (arith, c.self.invariant.0, m.push_frames.ok.0)) c.len-top.result _ (c.len-top.ensures ∙ m.asks.ok.0) c.index.ensures c.requires.some
    ∙ ap (λ y. asks_of y ∷ []) c.in-Tries.is in
    tries_ended _ _ (run_state_of c.args.run_memory.now) _ _ m.sending m.push_frames.items m.asks.items m.answered m.room c.len-top.result c.self.view_is top refl
    (omega (arith, c.self.invariant.0, m.push_frames.ok.0)) (omega (arith, c.self.invariant.1, m.push_frames.ok.0)) c.requires.room (c.len-top.ensures ∙ m.asks.ok.0)
    c.in-Tries.at c.in-Tries.inputs c.in-Tries.count c.in-Tries.input c.in-Tries.back refl _ c.truncate.ensures.items c.if-self.false c.if-count-eq0.true
