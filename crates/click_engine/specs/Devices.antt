-- The elements where packets of a device enter and leave (Click manual, "FromDevice", "ToDevice").
use Rattle.std.specs.Prelude.{ℕ, ◌+◌, List, [], ◌∷◌, Option, Some, None, if◌then◌else◌}
use Rattle.std.specs.Str.{bytes_eq}
use Rattle.click_classes.specs.declared.state.State.{State}
use Rattle.click_classes.specs.declared.state.State.TheVariants as state
use Rattle.click_engine.specs.declared.devices.PacketDirection.{PacketDirection}
use Rattle.click_engine.specs.declared.devices.PacketDirection.TheVariants as direction

-- a device, and the index of its element
pub record Device : Type 0 where
  pub name : List ℕ
  pub element : ℕ

-- the device that a state names: of a FromDevice if packets enter, of a ToDevice if they leave
abbrev pub device_of : PacketDirection → State → Option (List ℕ)
device_of direction.In (state.FromDevice device) = Some device
device_of direction.In s = None
device_of direction.Out (state.ToDevice device) = Some device
device_of direction.Out s = None

abbrev pub without : List ℕ → List Device → List Device
without name [] = []
without name (d ∷ ds) = if bytes_eq name d.name then without name ds else d ∷ without name ds

abbrev pub first_with : Option (List ℕ) → ℕ → List Device → List Device
first_with None at ds = ds
first_with (Some name) at ds = record { name = name; element = at } ∷ without name ds

-- the devices of these states, which begin at index `at`, each with the first element that names it
abbrev pub devices_from : PacketDirection → ℕ → List State → List Device
devices_from w at [] = []
devices_from w at (s ∷ ss) = first_with (device_of w s) at (devices_from w (at + 1) ss)

-- the index of a device's element
abbrev pub element_with : List Device → List ℕ → Option ℕ
element_with [] name = None
element_with (d ∷ ds) name = if bytes_eq name d.name then Some d.element else element_with ds name
