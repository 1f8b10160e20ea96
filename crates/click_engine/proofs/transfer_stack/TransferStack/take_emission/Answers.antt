use Rattle.std.proofs.Common.{arith}
use Rattle.click_engine.specs.Adjacency.{run_state_of}
use Rattle.click_engine.proofs.OfFrames.FirstFrames.{held, taken}
use Rattle.click_engine.proofs.transfer_stack.TransferStack.take_emission.Goals as goal

pub returns-clause-emitted : goal.returns-clause-emitted
returns-clause-emitted c =
    let m = c.self.inside in
    taken _ _ _ _ (held _ m.sending m.push_frames.items m.asks.items m.answered m.room c.self.view_is c.requires.done
    (omega (arith, c.self.invariant.0, m.push_frames.ok.0)) (omega (arith, c.self.invariant.1, m.push_frames.ok.0)) _ _) (run_state_of c.args.run_memory.now) _ _ _ c.emit-self-inside.ensures.emitted
