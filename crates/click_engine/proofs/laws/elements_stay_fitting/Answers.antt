use Rattle.click_engine.proofs.OfInvariants.PortFit.{arrive-fitting, transmit-fitting, round-fitting}
use Rattle.click_engine.proofs.laws.elements_stay_fitting.Goals as goal

pub returns : goal.returns
returns c = record { arrive = arrive-fitting; transmit = transmit-fitting; round = round-fitting }
