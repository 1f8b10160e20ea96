use Rattle.std.proofs.Common.{◌≡◌, map, take}
use Rattle.click_engine.specs.kept.Tables.{element_of, port_of}
use Rattle.click_engine.proofs.adjacency.apart.Given as goal

abbrev pub invariant-loop-end : goal.invariant-loop-end
invariant-loop-end l = record {
  places : l.places.items ≡ map element_of (take l.end-index l.ends);
  ports : l.ports.items ≡ map port_of (take l.end-index l.ends);
}
