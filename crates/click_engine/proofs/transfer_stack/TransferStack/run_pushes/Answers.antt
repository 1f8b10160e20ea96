use Rattle.click_engine.proofs.OfFrames.OutputFrames.{follows_on}
use Rattle.click_engine.proofs.transfer_stack.TransferStack.run_pushes.Goals as goal

pub returns-then-self-gt0-clause-follows : goal.returns-then-self-gt0-clause-follows
returns-then-self-gt0-clause-follows c = follows_on _ _ _ _ _ _ _ c.push_last.ensures.follows c.push_rest.ensures.follows
