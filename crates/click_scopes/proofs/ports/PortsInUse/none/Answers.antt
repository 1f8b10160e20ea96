use Rattle.std.proofs.Common.{refl}
use Rattle.click_scopes.proofs.OfConnections.UsedPorts.{used-none}
use Rattle.click_scopes.proofs.ports.PortsInUse.none.Goals as goal

pub returns : goal.returns
returns c = used-none _ refl
