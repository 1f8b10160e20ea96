use Rattle.std.proofs.Common.{◌∙◌, ap, Some, [], true, arith}
use Rattle.click_engine.proofs.OfFrames.FirstFrames.{held}
use Rattle.click_engine.proofs.OfFrames.FrameTurns.{transfer_stack}
use Rattle.click_engine.proofs.transfer_stack.TransferStack.set_answer.Goals as goal

pub returns : goal.returns
returns c =
    let m = c.self.inside in
    held _ m.sending m.push_frames.items m.asks.items m.answered m.room c.self.view_is c.requires (omega (arith, c.self.invariant.0, m.push_frames.ok.0)) (omega (arith, c.self.invariant.1, m.push_frames.ok.0))
    _ true
    ∙ ap (λ p. transfer_stack [] (Some p) c.args.self.now.room) c.copy_from.ensures
