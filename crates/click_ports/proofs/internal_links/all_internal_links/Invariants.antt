use Rattle.click_ports.proofs.InnerLinks.{AreRowsBelow}
use Rattle.click_ports.proofs.internal_links.all_internal_links.Given as goal

abbrev pub invariant-loop-port : goal.invariant-loop-port
invariant-loop-port l = AreRowsBelow l.layout l.port-index l.rows.items
