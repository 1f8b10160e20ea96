use Rattle.click_engine.proofs.OfPlants.ElementTakeOver.{all_sound, all_fitting}
use Rattle.click_engine.proofs.laws.taking_over_keeps_plants_sound.Goals as goal

pub returns : goal.returns
returns c = record {
  sound = λ v old h. all_sound old v.net.names v.elements h;
  fitting = λ v old h. all_fitting old v.net.names v.elements h;
}
