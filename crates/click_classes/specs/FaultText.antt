-- The texts of the faults of arguments.
use Rattle.std.specs.Prelude.{ℕ, List, codes}
use Rattle.click_classes.specs.declared.fault.ArgFault.{ArgFault}
use Rattle.click_classes.specs.declared.fault.ArgFault.TheVariants as fault

-- the number and the name of a fault, as operators see them
abbrev pub kind_text : ArgFault → List ℕ
kind_text fault.NoMemory = codes "7 NoMemory"
kind_text fault.ArgumentCount = codes "21 ArgumentCount"
kind_text fault.BadNumber = codes "22 BadNumber"
kind_text fault.BadText = codes "23 BadText"
kind_text fault.OutOfRange = codes "24 OutOfRange"
kind_text fault.BadAddress = codes "25 BadAddress"
kind_text fault.BadEntry = codes "26 BadEntry"
