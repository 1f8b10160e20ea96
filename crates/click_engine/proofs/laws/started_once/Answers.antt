use Rattle.click_engine.proofs.OfPlants.FirstPlant.{one_beginning}
use Rattle.click_engine.proofs.laws.started_once.Goals as goal

pub returns : goal.returns
returns c = one_beginning
