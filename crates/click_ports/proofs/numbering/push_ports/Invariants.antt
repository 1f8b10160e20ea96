use Rattle.std.proofs.Common.{◌≡◌, ◌++◌}
use Rattle.click_ports.specs.kept.Numbered.{side_ports}
use Rattle.click_ports.proofs.numbering.push_ports.Given as goal

abbrev pub invariant-loop-number : goal.invariant-loop-number
invariant-loop-number l = l.ports.items ≡ l.fn.ports.items ++ side_ports l.element l.side l.number
