use Rattle.std.proofs.Common.{ap, ◌∙◌, arith}
use Rattle.click_engine.specs.Frames.{TransferStack}
use Rattle.click_engine.proofs.OfFrames.SlotFrames.{no_push_frames}
use Rattle.click_engine.proofs.transfer_stack.TransferStack.is_done.Goals as goal

pub returns-then-self-gt0 : goal.returns-then-self-gt0
returns-then-self-gt0 c =
    let m = c.self.inside in (
      λ t. absurd (cc),
      λ e. absurd (omega (arith, no_push_frames m.sending m.push_frames.items m.asks.items (omega (arith, c.self.invariant.0, m.push_frames.ok.0)) (ap (λ (s : TransferStack). s.frames) c.self.view_is ∙ e))),
    )
