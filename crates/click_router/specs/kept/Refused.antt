-- The reasons why a configuration that parses opens no router.
use Rattle.std.specs.Prelude.{◌≡◌, ◌⊎◌, List, ◌∷◌, ◌++◌, Err}
use Rattle.click_text.specs.declared.syntax.Config.{Config}
use Rattle.click_expand.specs.Flat.{IsFlat, IsFlatFault}
use Rattle.click_expand.specs.declared.fault.ExpandFault.{ExpandFault}
use Rattle.click_expand.specs.declared.flat.FlatElement.{FlatElement}
use Rattle.click_expand.specs.declared.flat.Flat.{Flat}
use Rattle.click_classes.specs.declared.fault.ArgFault.{ArgFault}
use Rattle.click_classes.specs.declared.state.State.{State}
use Rattle.click_ports.specs.Breaches.{IsFirstBreach}
use Rattle.click_ports.specs.Net.{net_of}
use Rattle.click_ports.specs.declared.fault.PortFault.{PortFault}
use Rattle.click_router.specs.Opened.{AreFresh, IsBegun, of_expand_fault, of_argument_fault, of_port_fault}
use Rattle.click_router.specs.declared.fault.ConfigFault.{ConfigFault}

-- the fault of the first element that refuses its arguments
pub record IsUnfit (es : List FlatElement) (f : ConfigFault) : Type 0 where
  pub fit : List FlatElement
  pub element : FlatElement
  pub more : List FlatElement
  pub splits : es ≡ fit ++ element ∷ more
  pub states : List State
  pub fresh : AreFresh fit states
  pub fault : ArgFault
  pub refused : IsBegun element (Err fault)
  pub is : f ≡ of_argument_fault element fault

-- the first breach of a port rule
pub record IsUnlawful (flat : Flat) (f : ConfigFault) : Type 0 where
  pub states : List State
  pub fresh : AreFresh flat.elements states
  pub breach : PortFault
  pub first : IsFirstBreach (net_of flat states).shapes (net_of flat states).connections breach
  pub is : f ≡ of_port_fault flat.elements breach

-- the first fault of a configuration: of its flat form, of an element's arguments, or of its ports
abbrev pub IsConfigFault : Config → ConfigFault → Type 0
IsConfigFault config f =
    ((e : ExpandFault) × IsFlatFault config e × (f ≡ of_expand_fault config.text e))
    ⊎ ((flat : Flat) × IsFlat config flat × (IsUnfit flat.elements f ⊎ IsUnlawful flat f))
