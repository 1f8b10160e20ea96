-- Which ports are linked (Click manual, "Agnostic ports").
use Rattle.std.specs.Prelude.{◌≡◌, ℕ, List, Contains, slice_index_or, true, false}
use Rattle.click_base.specs.declared.class.Class.{Class}
use Rattle.click_base.specs.declared.class.Class.TheVariants as class
use Rattle.click_classes.specs.declared.ports.Code.{Code}
use Rattle.click_classes.specs.declared.ports.Code.TheVariants.{Agnostic}
use Rattle.click_classes.specs.declared.ports.Side.TheVariants.{Input, Output}
use Rattle.click_classes.specs.Ports.{code, passes}
use Rattle.click_expand.specs.declared.flat.Connection.{Connection}
use Rattle.click_ports.specs.declared.port.Port.{Port}
use Rattle.click_ports.specs.declared.shape.Shape.{Shape}
use Rattle.click_ports.specs.Ports.{input, output, joined_port, Has}

-- the shape after the last element: an Idle without ports
abbrev pub blank : Shape
blank = record { class = class.Idle; counts = record { inputs = (0, 0); outputs = (0, 0); equal = false } }

abbrev pub class_at : List Shape → ℕ → Class
class_at ss e = (slice_index_or ss e blank).class

-- the code of the port by its class: push, pull or agnostic
abbrev pub code_at : List Shape → Port → Code
code_at ss p = code (class_at ss p.element) p.side p.number

abbrev pub IsAgnostic : List Shape → Port → Type 0
IsAgnostic ss p = code_at ss p ≡ Agnostic

abbrev pub IsFixed : List Shape → Port → Type 0
IsFixed ss p = IsAgnostic ss p → ⊥

-- packets pass inside the element from the input to the output, which are both agnostic
pub record Passes (ss : List Shape) (cs : List Connection) (e i o : ℕ) : Type 0 where
  pub has_input : Has cs (input e i)
  pub has_output : Has cs (output e o)
  pub agnostic_input : IsAgnostic ss (input e i)
  pub agnostic_output : IsAgnostic ss (output e o)
  pub inside : passes (class_at ss e) i o ≡ true

-- two ports are linked by a connection, or inside one element, in both directions
pub data Linked (ss : List Shape) (cs : List Connection) : Port → Port → Type 0 where
  along : (c : Connection) → Contains cs c → Linked ss cs (joined_port Output c) (joined_port Input c)
  against : (c : Connection) → Contains cs c → Linked ss cs (joined_port Input c) (joined_port Output c)
  through : (e i o : ℕ) → Passes ss cs e i o → Linked ss cs (input e i) (output e o)
  back : (e i o : ℕ) → Passes ss cs e i o → Linked ss cs (output e o) (input e i)
