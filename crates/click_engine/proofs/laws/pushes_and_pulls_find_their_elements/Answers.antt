use Rattle.click_engine.proofs.OfPlants.ConnectedPorts.{target-there, source-there, target-named, source-named}
use Rattle.click_engine.proofs.laws.pushes_and_pulls_find_their_elements.Goals as goal

pub returns : goal.returns
returns c = record {
  push = λ v at output h. target-there v.net v.elements h.elements at output;
  pull = λ v at input h. source-there v.net v.elements h.elements at input;
  target = λ net c h. target-named net.shapes net.connections c h.lawful;
  source = λ net c h. source-named net.shapes net.connections c h.lawful;
}
