-- The ports of the elements of a net (Click manual, "Ports").
use Rattle.std.specs.Prelude.{ℕ, suc, zero, ◌+◌, ◌<◌, max, List, [], ◌∷◌, count_by, Bool, ◌&&◌, nat_eq, if◌then◌else◌}
use Rattle.click_classes.specs.declared.ports.Side.{Side}
use Rattle.click_classes.specs.declared.ports.Side.TheVariants.{Input, Output}
use Rattle.click_expand.specs.declared.flat.Connection.{Connection}
use Rattle.click_ports.specs.declared.port.Port.{Port}

abbrev pub input : ℕ → ℕ → Port
input e n = record { element = e; side = Input; number = n }

abbrev pub output : ℕ → ℕ → Port
output e n = record { element = e; side = Output; number = n }

-- the port of a connection at a side: a connection leads from an output to an input
abbrev pub joined_port : Side → Connection → Port
joined_port Input c = input c.to c.in_port
joined_port Output c = output c.from c.out_port

-- one more than the number of the element's port at this end of the connection, or 0 if the end is
-- at another element
abbrev pub past : ℕ → Side → Connection → ℕ
past e s c = if nat_eq (joined_port s c).element e then (joined_port s c).number + 1 else 0

-- the number of ports of the element at the side: one more than its highest connected port
abbrev pub used : List Connection → ℕ → Side → ℕ
used [] e s = 0
used (c ∷ cs) e s = max (past e s c) (used cs e s)

-- the port exists
abbrev pub Has : List Connection → Port → Type 0
Has cs p = p.number < used cs p.element p.side

abbrev pub joins : Port → Connection → Bool
joins p c = nat_eq (joined_port p.side c).element p.element && nat_eq (joined_port p.side c).number p.number

-- the number of connections of the port
abbrev pub uses : List Connection → Port → ℕ
uses cs p = count_by (joins p) cs

-- the number of the element's first port; all ports are numbered element by element, inputs before
-- outputs
abbrev pub first : List Connection → ℕ → ℕ
first cs zero = 0
first cs (suc e) = first cs e + (used cs e Input + used cs e Output)

-- the number of ports of the element that come before those of the side
abbrev pub ahead : List Connection → ℕ → Side → ℕ
ahead cs e Input = 0
ahead cs e Output = used cs e Input

abbrev pub port_index : List Connection → Port → ℕ
port_index cs p = first cs p.element + ahead cs p.element p.side + p.number
