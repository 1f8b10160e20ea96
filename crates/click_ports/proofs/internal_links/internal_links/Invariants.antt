use Rattle.click_ports.proofs.InnerLinks.{IsRowBelow}
use Rattle.click_ports.proofs.internal_links.internal_links.Given as goal

abbrev pub invariant-loop-number : goal.invariant-loop-number
invariant-loop-number l = IsRowBelow l.layout l.port l.number l.row
