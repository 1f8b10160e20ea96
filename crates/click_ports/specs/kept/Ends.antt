-- The ends of connections, in the lists of the code.
use Rattle.std.specs.Prelude.{◌≡◌, ℕ, List, [], ◌∷◌, length, slice_index_or, if◌then◌else◌}
use Rattle.click_expand.specs.declared.flat.Connection.{Connection}
use Rattle.click_ports.specs.declared.port.Port.{Port}
use Rattle.click_ports.specs.Ports.{joined_port, joins, Has, port_index, first}
use Rattle.click_ports.specs.kept.Passages.{opposite}
use Rattle.click_ports.specs.kept.Wiring.{Wiring}

-- the number of the port at the other end of a connection of the port
abbrev pub far_end : List Connection → Port → Connection → ℕ
far_end cs p c = port_index cs (joined_port (opposite p.side) c)

-- the numbers of the ports at the other ends, for those of some connections that the port has
abbrev pub far_ends : List Connection → List Connection → Port → List ℕ
far_ends cs [] p = []
far_ends cs (c ∷ some) p = if joins p c then far_end cs p c ∷ far_ends cs some p else far_ends cs some p

-- each port's row has the other ends of its connections
pub record AreFarEnds (w : Wiring) (rows : List (List ℕ)) : Type 0 where
  pub all : length rows ≡ first w.connections (length w.shapes)
  pub right : (p : Port) → Has w.connections p → slice_index_or rows (port_index w.connections p) [] ≡ far_ends w.connections w.connections p
