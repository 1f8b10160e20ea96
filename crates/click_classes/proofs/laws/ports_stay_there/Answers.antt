use Rattle.click_classes.proofs.OfPorts.PortFit.{act-fits, gives-fits, stored-fits, emission-fits, first-turn}
use Rattle.click_classes.proofs.laws.ports_stay_there.Goals as goal

pub returns : goal.returns
returns c = record { pushed = act-fits; pulled = gives-fits; held = stored-fits; emitted = emission-fits; first = first-turn }
