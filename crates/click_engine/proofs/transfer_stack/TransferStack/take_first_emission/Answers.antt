use Rattle.std.proofs.Common.{◌≡◌, nat_lt, refl, arith}
use Rattle.click_classes.specs.Acts.{burst_of, emission}
use Rattle.click_engine.specs.Adjacency.{run_state_of}
use Rattle.click_engine.specs.RunState.{element_at, with_state}
use Rattle.click_engine.proofs.OfFrames.FirstFrames.{held, taken_first}
use Rattle.click_engine.proofs.transfer_stack.TransferStack.take_first_emission.Goals as goal

pub returns-clause-emitted : goal.returns-clause-emitted
returns-clause-emitted c =
    let m = c.self.inside in let w = run_state_of c.args.run_memory.now in let at = c.args.at in let most = c.emit_first-most.result in
    let s = (element_at w at).state in let q = c.emit_first-most.new.packet in
    taken_first most (burst_of s) (nat_lt 0 (burst_of s)) refl q _ _ (held _ m.sending m.push_frames.items m.asks.items m.answered m.room c.self.view_is c.requires.done
    (omega (arith, c.self.invariant.0, m.push_frames.ok.0)) (omega (arith, c.self.invariant.1, m.push_frames.ok.0)) _ (nat_lt 0 most))
    w (run_state_of c.emit_first-most.new.self) (λ e. run_state_of c.emit_first-most.new.self ≡ with_state w at e.state) (emission s) c.emit_first-most.ensures.emitted
