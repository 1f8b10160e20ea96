-- The links inside an element, in the lists of the code.
use Rattle.std.specs.Prelude.{◌≡◌, ℕ, List, [], length, slice_index_or, Contains, Bool, true}
use Rattle.click_base.specs.declared.class.Class.{Class}
use Rattle.click_classes.specs.declared.ports.Side.{Side}
use Rattle.click_classes.specs.declared.ports.Side.TheVariants.{Input, Output}
use Rattle.click_classes.specs.Ports.{passes}
use Rattle.click_expand.specs.declared.flat.Connection.{Connection}
use Rattle.click_ports.specs.declared.port.Port.{Port}
use Rattle.click_ports.specs.declared.shape.Shape.{Shape}
use Rattle.click_ports.specs.Ports.{Has, port_index, first}
use Rattle.click_ports.specs.Links.{class_at, IsAgnostic}
use Rattle.click_ports.specs.kept.Wiring.{Wiring}

abbrev pub opposite : Side → Side
opposite Input = Output
opposite Output = Input

-- packets pass between a port of this side and one of the opposite side
abbrev pub passes_between : Class → Side → ℕ → ℕ → Bool
passes_between c Input i o = passes c i o
passes_between c Output o i = passes c i o

-- the port with this number on the opposite side
abbrev pub across : Port → ℕ → Port
across p n = record { element = p.element; side = opposite p.side; number = n }

-- packets pass inside the element between the port and port n of the opposite side
pub record Crosses (ss : List Shape) (cs : List Connection) (p : Port) (n : ℕ) : Type 0 where
  pub here : Has cs p
  pub there : Has cs (across p n)
  pub agnostic_here : IsAgnostic ss p
  pub agnostic_there : IsAgnostic ss (across p n)
  pub inside : passes_between (class_at ss p.element) p.side p.number n ≡ true

-- the row has the numbers of the ports with which the port is linked inside its element
pub record IsRow (w : Wiring) (p : Port) (row : List ℕ) : Type 0 where
  pub sound : (y : ℕ) → Contains row y → (n : ℕ) × Crosses w.shapes w.connections p n × (port_index w.connections (across p n) ≡ y)
  pub complete : (n : ℕ) → Crosses w.shapes w.connections p n → Contains row (port_index w.connections (across p n))

pub record AreRows (w : Wiring) (rows : List (List ℕ)) : Type 0 where
  pub all : length rows ≡ first w.connections (length w.shapes)
  pub right : (p : Port) → Has w.connections p → IsRow w p (slice_index_or rows (port_index w.connections p) [])
