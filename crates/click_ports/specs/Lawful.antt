-- Which nets are lawful (Click manual, "Ports"; TOCS 2000).
use Rattle.std.specs.Prelude.{◌≡◌, ℕ, ◌<◌, ◌≤◌, List, slice_get, true, Some}
use Rattle.click_classes.specs.declared.ports.Counts.{Counts}
use Rattle.click_classes.specs.declared.ports.Side.TheVariants.{Input, Output}
use Rattle.click_expand.specs.declared.flat.Connection.{Connection}
use Rattle.click_ports.specs.declared.port.Port.{Port}
use Rattle.click_ports.specs.declared.shape.Shape.{Shape}
use Rattle.click_ports.specs.Ports.{used, Has, uses}
use Rattle.click_ports.specs.Kinds.{IsMixed, IsSingle}

abbrev pub Within : ℕ × ℕ → ℕ → Type 0
Within range n = (range.0 ≤ n) × (n ≤ range.1)

-- these numbers of inputs and outputs are allowed
pub record IsCounted (allowed : Counts) (inputs outputs : ℕ) : Type 0 where
  pub inputs_in : Within allowed.inputs inputs
  pub outputs_in : Within allowed.outputs outputs
  pub equal : allowed.equal ≡ true → inputs ≡ outputs

-- each element has as many ports as its state allows
abbrev pub AllCounted : List Shape → List Connection → Type 0
AllCounted ss cs = (e : ℕ) (s : Shape) → slice_get ss e ≡ Some s → IsCounted s.counts (used cs e Input) (used cs e Output)

-- no port below the highest connected one is unconnected
abbrev pub AllConnected : List Connection → Type 0
AllConnected cs = (p : Port) → Has cs p → 0 < uses cs p

-- no port reaches both a push port and a pull port
abbrev pub NoneMixed : List Shape → List Connection → Type 0
NoneMixed ss cs = (p : Port) → Has cs p → IsMixed ss cs p → ⊥

-- each push output and each pull input has exactly one connection
abbrev pub AllSingle : List Shape → List Connection → Type 0
AllSingle ss cs = (p : Port) → Has cs p → IsSingle ss cs p → uses cs p ≡ 1

pub record Lawful (ss : List Shape) (cs : List Connection) : Type 0 where
  pub counted : AllCounted ss cs
  pub connected : AllConnected cs
  pub unmixed : NoneMixed ss cs
  pub single : AllSingle ss cs
