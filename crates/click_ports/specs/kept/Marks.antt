-- The codes and the kinds of all ports, in the lists of the code.
use Rattle.std.specs.Prelude.{◌≡◌, ◌↔◌, List, length, Bool, not}
use Rattle.click_classes.specs.declared.ports.Code.{Code}
use Rattle.click_classes.specs.declared.ports.Side.{Side}
use Rattle.click_classes.specs.declared.ports.Side.TheVariants.{Input, Output}
use Rattle.click_ports.specs.declared.port.Port.{Port}
use Rattle.click_ports.specs.Ports.{Has, port_index, first}
use Rattle.click_ports.specs.Links.{code_at}
use Rattle.click_ports.specs.Kinds.{Meets}
use Rattle.click_ports.specs.kept.Search.{IsMarked, code_of}
use Rattle.click_ports.specs.kept.Wiring.{Wiring}

-- pull inputs and push outputs
abbrev pub is_single : Side → Bool → Bool
is_single Input pull = pull
is_single Output pull = not pull

-- each port's code is at its number
pub record AreCodes (w : Wiring) (codes : List Code) : Type 0 where
  pub all : length codes ≡ first w.connections (length w.shapes)
  pub right : (p : Port) → Has w.connections p → code_of codes (port_index w.connections p) ≡ code_at w.shapes p

-- a port is marked, at its number, exactly if it reaches a port with the code
pub record AreMarks (w : Wiring) (k : Code) (marks : List Bool) : Type 0 where
  pub all : length marks ≡ first w.connections (length w.shapes)
  pub right : (p : Port) → Has w.connections p → IsMarked marks (port_index w.connections p) ↔ Meets w.shapes w.connections k p
