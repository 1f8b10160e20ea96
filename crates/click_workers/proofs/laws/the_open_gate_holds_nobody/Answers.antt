use Rattle.click_workers.proofs.OpenGates.{never-closed}
use Rattle.click_workers.proofs.laws.the_open_gate_holds_nobody.Goals as goal

pub returns : goal.returns
returns c = λ gate who is course h. never-closed _ _ (λ g w n e. absurd cc) _ is course h
