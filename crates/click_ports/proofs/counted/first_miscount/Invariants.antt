use Rattle.click_ports.proofs.FirstBreach.{CountedBelow}
use Rattle.click_ports.proofs.counted.first_miscount.Given as goal

abbrev pub invariant-loop-element : goal.invariant-loop-element
invariant-loop-element l = CountedBelow l.layout.shapes l.layout.connections l.element
