use Rattle.std.proofs.Common.{ap, ◌∙◌, arith}
use Rattle.click_engine.specs.Frames.{TransferStack, sends_first}
use Rattle.click_engine.proofs.OfFrames.SlotFrames.{is_above}
use Rattle.click_engine.proofs.transfer_stack.TransferStack.is_sending.Goals as goal

pub returns : goal.returns
returns c =
    let m = c.self.inside in
    let made = m.push_frames.ok.0 in
    is_above m.sending m.push_frames.items m.asks.items (omega (arith, c.self.invariant.0)) ∙ ap (λ (s : TransferStack). sends_first s.frames) c.self.view_is
