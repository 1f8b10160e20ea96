-- The value that contracts see of a layout, and the numbers of its ports.
use Rattle.std.specs.Prelude.{◌≡◌, ℕ, ◌<◌, ◌≤◌, List, length, slice_get, All, Some}
use Rattle.click_classes.specs.declared.ports.Side.{Side}
use Rattle.click_classes.specs.declared.ports.Side.TheVariants.{Input, Output}
use Rattle.click_expand.specs.declared.flat.Connection.{Connection}
use Rattle.click_ports.specs.declared.port.Port.{Port}
use Rattle.click_ports.specs.declared.shape.Shape.{Shape}
use Rattle.click_ports.specs.declared.numbering.Block.{Block}
use Rattle.click_ports.specs.Ports.{used, Has, first, port_index}

-- elements and connections
pub record Wiring : Type 0 where
  pub shapes : List Shape
  pub connections : List Connection

-- each connection is between two of the first n elements
abbrev pub AreWithin : ℕ → List Connection → Type 0
AreWithin n cs = All (λ (c : Connection). (c.from < n) × (c.to < n)) cs

abbrev pub block_of : List Connection → ℕ → Block
block_of cs e = record { first = first cs e; inputs = used cs e Input; outputs = used cs e Output }

-- the number of ports in a block that come before those of the side
abbrev pub ahead_in : Block → Side → ℕ
ahead_in b Input = 0
ahead_in b Output = b.inputs

abbrev pub count_in : Block → Side → ℕ
count_in b Input = b.inputs
count_in b Output = b.outputs

-- each of these ports exists, and its index is its number
abbrev pub InPlace : List Connection → List Port → Type 0
InPlace cs ports = (x : ℕ) (p : Port) → slice_get ports x ≡ Some p → Has cs p × (port_index cs p ≡ x)

-- the blocks of the first n elements, and all their ports
pub record AreNumbered (cs : List Connection) (n : ℕ) (blocks : List Block) (ports : List Port) : Type 0 where
  pub all_blocks : length blocks ≡ n
  pub blocks_right : (e : ℕ) (b : Block) → slice_get blocks e ≡ Some b → b ≡ block_of cs e
  pub all_ports : length ports ≡ first cs n
  pub ports_right : InPlace cs ports
  -- the port numbers of a connection are bytes
  pub small : (e : ℕ) (s : Side) → e < n → used cs e s ≤ 256
