use Rattle.click_engine.specs.Keeps.{Among}
use Rattle.click_engine.proofs.OfInvariants.ElementInvariants.{arrive-outside, transmit-outside, task-outside, round-outside}
use Rattle.click_engine.proofs.laws.runs_stay_within_reach.Goals as goal

pub returns : goal.returns
returns c = record {
  arrive = λ places. arrive-outside (Among places);
  transmit = λ places. transmit-outside (Among places);
  task = λ places. task-outside (Among places);
  round = λ places. round-outside (Among places);
}
