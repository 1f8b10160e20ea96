use Rattle.std.proofs.Common.{◌<◌}
use Rattle.click_ports.specs.declared.port.Port.{Port}
use Rattle.click_ports.specs.Ports.{Has, uses, port_index}
use Rattle.click_ports.specs.Kinds.{IsSingle}
use Rattle.click_ports.proofs.breaches.first_twice.Given as goal

abbrev pub invariant-loop-number : goal.invariant-loop-number
invariant-loop-number l = (q : Port) → Has l.layout.connections q → port_index l.layout.connections q < l.number → IsSingle l.layout.shapes l.layout.connections q → 1 < uses l.layout.connections q → ⊥
