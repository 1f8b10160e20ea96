use Rattle.std.proofs.Common.{◌≡◌, take}
use Rattle.std.specs.Prelude.{filter}
use Rattle.click_ports.specs.Net.{is_there}
use Rattle.click_ports.proofs.resolution.joined.Given as goal

abbrev pub invariant-loop-connection : goal.invariant-loop-connection
invariant-loop-connection l = l.kept.items ≡ filter (is_there l.elements) (take l.connection-index l.connections)
