use Rattle.click_engine.proofs.OfPlants.FirstPlant.{enters_first, leaves_first}
use Rattle.click_engine.proofs.laws.devices_are_first.Goals as goal

pub returns : goal.returns
returns c = record { source = enters_first; sink = leaves_first }
