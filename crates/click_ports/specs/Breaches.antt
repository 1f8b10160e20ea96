-- Breaches of the rules of ports, and which of them is the first.
use Rattle.std.specs.Prelude.{◌≡◌, ◌⊎◌, ℕ, ◌<◌, List, slice_get, true, Some}
use Rattle.click_classes.specs.declared.ports.Counts.{Counts}
use Rattle.click_classes.specs.declared.ports.Side.{Side}
use Rattle.click_classes.specs.declared.ports.Side.TheVariants.{Input, Output}
use Rattle.click_expand.specs.declared.flat.Connection.{Connection}
use Rattle.click_ports.specs.declared.port.Port.{Port}
use Rattle.click_ports.specs.declared.shape.Shape.{Shape}
use Rattle.click_ports.specs.declared.fault.FaultKind.{FaultKind}
use Rattle.click_ports.specs.declared.fault.FaultKind.TheVariants as kind
use Rattle.click_ports.specs.declared.fault.PortFault.{PortFault}
use Rattle.click_ports.specs.Ports.{used, Has, uses}
use Rattle.click_ports.specs.Kinds.{IsMixed, IsSingle}
use Rattle.click_ports.specs.Lawful.{Within}

-- The side at which the number of ports is not allowed: the inputs, or else the outputs. If the two
-- numbers must be equal and are not, it is the inputs.
pub data IsMiscounted (allowed : Counts) (inputs outputs : ℕ) : Side → Type 0 where
  inputs_out : (Within allowed.inputs inputs → ⊥) → IsMiscounted allowed inputs outputs Input
  outputs_out : Within allowed.inputs inputs → (Within allowed.outputs outputs → ⊥) → IsMiscounted allowed inputs outputs Output
  unequal : Within allowed.inputs inputs → Within allowed.outputs outputs → allowed.equal ≡ true → (inputs ≡ outputs → ⊥) →
      IsMiscounted allowed inputs outputs Input

abbrev pub fault_at : FaultKind → Port → PortFault
fault_at k p = record { kind = k; element = p.element; side = p.side; number = p.number }

abbrev pub count_fault : List Connection → ℕ → Side → PortFault
count_fault cs e s = record { kind = kind.Count; element = e; side = s; number = used cs e s }

pub data IsBreach (ss : List Shape) (cs : List Connection) : PortFault → Type 0 where
  count : (e : ℕ) (shape : Shape) (s : Side) → slice_get ss e ≡ Some shape → IsMiscounted shape.counts (used cs e Input) (used cs e Output) s →
      IsBreach ss cs (count_fault cs e s)
  unused : (p : Port) → Has cs p → uses cs p ≡ 0 → IsBreach ss cs (fault_at kind.Unused p)
  mixed : (p : Port) → Has cs p → IsMixed ss cs p → IsBreach ss cs (fault_at kind.Mixed p)
  twice : (p : Port) → Has cs p → IsSingle ss cs p → 1 < uses cs p → IsBreach ss cs (fault_at kind.Twice p)

-- numbers of ports come first, then unused ports, then mixed ones, then those with two connections
abbrev pub rank : FaultKind → ℕ
rank kind.Count = 0
rank kind.Unused = 1
rank kind.Mixed = 2
rank kind.Twice = 3
rank kind.NoMemory = 4

-- inputs come before outputs
abbrev pub side_rank : Side → ℕ
side_rank Input = 0
side_rank Output = 1

-- by element, then by side, then by number
abbrev pub PortBefore : Port → Port → Type 0
PortBefore p q =
    (p.element < q.element) ⊎ ((p.element ≡ q.element) × ((side_rank p.side < side_rank q.side) ⊎ ((p.side ≡ q.side) × (p.number < q.number))))

abbrev pub fault_port : PortFault → Port
fault_port f = record { element = f.element; side = f.side; number = f.number }

-- by kind, and for one kind by port
abbrev pub BreachBefore : PortFault → PortFault → Type 0
BreachBefore f g = (rank f.kind < rank g.kind) ⊎ ((f.kind ≡ g.kind) × PortBefore (fault_port f) (fault_port g))

-- the first breach: no other one comes before it
pub record IsFirstBreach (ss : List Shape) (cs : List Connection) (f : PortFault) : Type 0 where
  pub breach : IsBreach ss cs f
  pub first : (g : PortFault) → IsBreach ss cs g → BreachBefore g f → ⊥

-- out of memory
abbrev pub no_memory : PortFault
no_memory = record { kind = kind.NoMemory; element = 0; side = Input; number = 0 }

abbrev pub IsMemoryOr : PortFault → Type 0 → Type 0
IsMemoryOr f P = (f ≡ no_memory) ⊎ P
