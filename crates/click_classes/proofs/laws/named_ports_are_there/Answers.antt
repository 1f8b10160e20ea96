use Rattle.click_classes.proofs.OfPorts.NamedPorts.{act-there, gives-there, tries-there}
use Rattle.click_classes.proofs.laws.named_ports_are_there.Goals as goal

pub returns : goal.returns
returns c = record { pushed = act-there; copied = gives-there; asked = tries-there }
