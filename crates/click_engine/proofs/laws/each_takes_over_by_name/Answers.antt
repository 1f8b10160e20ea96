use Rattle.click_engine.proofs.OfPlants.ElementTakeOver.{each_by_name}
use Rattle.click_engine.proofs.laws.each_takes_over_by_name.Goals as goal

pub returns : goal.returns
returns c = λ v old at name e h k. each_by_name old v.net.names v.elements at name e h k
