-- The tables of connections and of devices.
use Rattle.std.specs.Prelude.{◌≡◌, ℕ, ◌<◌, List, [], ◌∷◌, length, map, slice_index_or, Option, Some, None, IfSome}
use Rattle.std.specs.declared.vec.Vec.{Vec}
use Rattle.std.specs.declared.alloc.Global.{Global}
use Rattle.click_engine.specs.Devices.{Device, element_with}
use Rattle.click_ports.specs.Net.{Net}
use Rattle.click_classes.specs.declared.ports.Side.{Side}
use Rattle.click_classes.specs.declared.ports.Side.TheVariants as side
use Rattle.click_expand.specs.declared.flat.Connection.{Connection}
use Rattle.click_ports.specs.Ports.{port_index, used}
use Rattle.click_engine.specs.Adjacency.{source_in, target_in, wiring_of}
use Rattle.click_engine.specs.declared.run_state.ConnectionEnd.{ConnectionEnd}

-- the end at the Idle that follows n elements, which stands for no connection
abbrev pub nowhere : ℕ → ConnectionEnd
nowhere n = record { element = n; port = 0 }

abbrev pub far_of : ℕ → Option ConnectionEnd → ConnectionEnd
far_of n None = nowhere n
far_of n (Some p) = p

-- this is where a push at an output goes, or a pull at an input
abbrev pub IsTarget : Net → ℕ → ℕ → ConnectionEnd → Type 0
IsTarget net at output far = far ≡ far_of (length net.shapes) ((wiring_of net).target at output)

abbrev pub IsSource : Net → ℕ → ℕ → ConnectionEnd → Type 0
IsSource net at input far = far ≡ far_of (length net.shapes) ((wiring_of net).source at input)

-- the other end of the first connection at a port of a side
abbrev pub joined_at : Side → List Connection → ℕ → ℕ → Option ConnectionEnd
joined_at side.Output cs = target_in cs
joined_at side.Input cs = source_in cs

-- where that connection leads
abbrev pub far_at : Net → Side → ℕ → ℕ → ConnectionEnd
far_at net s at number = far_of (length net.shapes) (joined_at s net.connections at number)

abbrev pub first_at : Net → Side → ℕ → ConnectionEnd
first_at net s at = far_at net s at 0

-- for each port that all connections make, by its number, where the first of some connections leads
abbrev pub Leads : List Connection → List Connection → ℕ → List ConnectionEnd → Type 0
Leads all some n ends = (s : Side) (at number : ℕ) → number < used all at s
    → slice_index_or ends (port_index all (record { element = at; side = s; number = number })) (nowhere n) ≡ far_of n (joined_at s some at number)

abbrev pub IsTable : Net → List ConnectionEnd → Type 0
IsTable net ends = Leads net.connections net.connections (length net.shapes) ends

-- these are ends at the first n elements
abbrev pub AreWithin : ℕ → (ℕ → ℕ → Option ConnectionEnd) → Type 0
AreWithin n f = (at number : ℕ) → IfSome (f at number) (λ far. far.element < n)

-- the list has the other end at the first port of each of n elements
abbrev pub AreFirst : ℕ → List ConnectionEnd → (ℕ → ℕ → Option ConnectionEnd) → Type 0
AreFirst n ports f = (at : ℕ) → slice_index_or ports at (nowhere n) ≡ far_of n (f at 0)

-- `AreFirst`, with the elements in one list and the ports in another
abbrev pub element_of : ConnectionEnd → ℕ
element_of p = p.element

abbrev pub port_of : ConnectionEnd → ℕ
port_of p = p.port

abbrev pub end_apart : ℕ → List ℕ → List ℕ → ℕ → ConnectionEnd
end_apart n places ports at = record { element = slice_index_or places at n; port = slice_index_or ports at 0 }

abbrev pub AreFirstTargets : ℕ → List ℕ → List ℕ → (ℕ → ℕ → Option ConnectionEnd) → Type 0
AreFirstTargets n places ports f = (at : ℕ) → end_apart n places ports at ≡ far_of n (f at 0)

-- each device is at one of the first n elements
abbrev pub AreAmong : ℕ → List Device → Type 0
AreAmong n ds = (device : List ℕ) → IfSome (element_with ds device) (λ at. at < n)

-- devices from a list of names and a list of indices
abbrev pub devices : List (List ℕ) → List ℕ → List Device
devices [] places = []
devices (name ∷ names) [] = []
devices (name ∷ names) (at ∷ places) = record { name = name; element = at } ∷ devices names places

-- the bytes of the texts
abbrev pub texts : List (Vec ℕ Global) → List (List ℕ)
texts names = map (λ (name : Vec ℕ Global). name.items) names
