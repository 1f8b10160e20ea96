use Rattle.click_ports.proofs.InnerLinks.{AreCodesBelow}
use Rattle.click_ports.proofs.kinds.codes_of.Given as goal

abbrev pub invariant-loop-port : goal.invariant-loop-port
invariant-loop-port l = AreCodesBelow l.layout l.port-index l.codes.items
