use Rattle.click_engine.proofs.OfInvariants.PortFit.{begins-fitting}
use Rattle.click_engine.proofs.laws.started_elements_fit.Goals as goal

pub returns : goal.returns
returns c = begins-fitting
