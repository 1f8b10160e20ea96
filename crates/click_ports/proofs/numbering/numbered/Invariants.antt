use Rattle.click_ports.specs.kept.Wiring.{AreNumbered}
use Rattle.click_ports.proofs.numbering.numbered.Given as goal

abbrev pub invariant-loop-element : goal.invariant-loop-element
invariant-loop-element l = AreNumbered l.connections l.element l.blocks.items l.ports.items
