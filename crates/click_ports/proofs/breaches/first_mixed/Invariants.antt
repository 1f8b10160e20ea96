use Rattle.std.proofs.Common.{◌<◌}
use Rattle.click_ports.specs.declared.port.Port.{Port}
use Rattle.click_ports.specs.Ports.{Has, port_index}
use Rattle.click_ports.specs.Kinds.{IsMixed}
use Rattle.click_ports.proofs.breaches.first_mixed.Given as goal

abbrev pub invariant-loop-number : goal.invariant-loop-number
invariant-loop-number l = (q : Port) → Has l.layout.connections q → port_index l.layout.connections q < l.number → IsMixed l.layout.shapes l.layout.connections q → ⊥
