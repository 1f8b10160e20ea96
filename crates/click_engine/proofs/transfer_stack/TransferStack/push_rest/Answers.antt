use Rattle.click_engine.proofs.OfFrames.OutputFrames.{follows_on}
use Rattle.click_engine.proofs.transfer_stack.TransferStack.push_rest.Goals as goal

pub returns-clause-follows : goal.returns-clause-follows
returns-clause-follows c = follows_on _ _ _ _ _ _ _ c.push_copies.ensures.follows c.push_last.ensures.follows
