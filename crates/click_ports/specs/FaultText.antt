-- The texts of the kinds of faults.
use Rattle.std.specs.Prelude.{ℕ, List, codes}
use Rattle.click_ports.specs.declared.fault.FaultKind.{FaultKind}
use Rattle.click_ports.specs.declared.fault.FaultKind.TheVariants as kind

-- the number and the name of a kind, as operators see them
abbrev pub kind_text : FaultKind → List ℕ
kind_text kind.NoMemory = codes "7 NoMemory"
kind_text kind.Count = codes "31 Count"
kind_text kind.Unused = codes "32 Unused"
kind_text kind.Twice = codes "33 Twice"
kind_text kind.Mixed = codes "34 Mixed"
