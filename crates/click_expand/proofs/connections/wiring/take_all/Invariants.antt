use Rattle.std.proofs.Common.{take}
use Rattle.click_expand.specs.kept.Wiring.{all_reached, Takes}
use Rattle.click_expand.proofs.connections.wiring.take_all.Given as goal

abbrev pub invariant-loop-end : goal.invariant-loop-end
invariant-loop-end l = Takes l.from.primitive_element l.from.start.port.number (all_reached l.one (take l.end-index l.ends)) l.fn.seen.keys l.seen.keys l.fn.found.keys l.found.keys
