-- The line of text of a fault.
use Rattle.std.specs.Prelude.{ℕ, List, [], ◌++◌, codes, decimal}
use Rattle.click_text.specs.declared.syntax.FaultKind.TheVariants as text_kind
use Rattle.click_text.specs.FaultText as of_text
use Rattle.click_expand.specs.FaultText as of_expansion
use Rattle.click_classes.specs.FaultText as of_argument
use Rattle.click_ports.specs.FaultText as of_port
use Rattle.click_router.specs.declared.fault.FaultKind.{FaultKind}
use Rattle.click_router.specs.declared.fault.FaultKind.TheVariants as kind
use Rattle.click_router.specs.declared.fault.FaultPlace.{FaultPlace}
use Rattle.click_router.specs.declared.fault.FaultPlace.TheVariants as place
use Rattle.click_router.specs.declared.fault.ConfigFault.{ConfigFault}
use Rattle.click_classes.specs.declared.ports.Side.{Side}
use Rattle.click_classes.specs.declared.ports.Side.TheVariants as side

-- the number and the name of a kind, as its layer has them
abbrev pub kind_text : FaultKind → List ℕ
kind_text kind.NoMemory = of_text.kind_text text_kind.NoMemory
kind_text (kind.Text k) = of_text.kind_text k
kind_text (kind.Expansion k) = of_expansion.kind_text k
kind_text (kind.Argument k) = of_argument.kind_text k
kind_text (kind.Port k) = of_port.kind_text k

-- the words for the ports of a side, and for one of them
abbrev pub ports_text : Side → List ℕ
ports_text side.Input = codes " inputs "
ports_text side.Output = codes " outputs "

abbrev pub port_text : Side → List ℕ
port_text side.Input = codes " input "
port_text side.Output = codes " output "

-- the words for a position
abbrev pub place_text : FaultPlace → List ℕ
place_text place.Nowhere = []
place_text (place.At line column) = codes " at " ++ decimal line ++ codes ":" ++ decimal column
place_text (place.Element name) = codes " in " ++ name
place_text (place.Used name s used) = codes " at " ++ name ++ ports_text s ++ decimal used
place_text (place.Port name s port) = codes " at " ++ name ++ port_text s ++ decimal port

abbrev pub fault_text : ConfigFault → List ℕ
fault_text f = kind_text f.kind ++ place_text f.place
