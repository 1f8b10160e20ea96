use Rattle.click_classes.proofs.OfPorts.PortUses.{first_well}
use Rattle.click_classes.proofs.laws.has_use.Goals as goal

pub returns : goal.returns
returns c = record {
  class = λ k text s m. (first_well k _ s m.fresh).0;
  ports = λ k text s m. (first_well k _ s m.fresh).1;
}
