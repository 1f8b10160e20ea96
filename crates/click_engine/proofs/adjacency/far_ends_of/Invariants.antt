use Rattle.std.proofs.Common.{◌≡◌, drop, length, vec_len}
use Rattle.click_ports.specs.Ports.{first}
use Rattle.click_engine.specs.kept.Tables.{Leads}
use Rattle.click_engine.proofs.adjacency.far_ends_of.Given as goal

-- the connections from `at` on are entered
abbrev pub invariant-loop-at : goal.invariant-loop-at
invariant-loop-at l = record {
  leads : Leads l.net.connections (drop l.at l.net.connections) (length l.net.shapes) l.far_ends.items;
  all : vec_len l.far_ends ≡ first l.net.connections (length l.net.shapes);
}
