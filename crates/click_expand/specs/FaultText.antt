-- The texts of the kinds of faults.
use Rattle.std.specs.Prelude.{ℕ, List, codes}
use Rattle.click_expand.specs.declared.fault.FaultKind.{FaultKind}
use Rattle.click_expand.specs.declared.fault.FaultKind.TheVariants as kind
use Rattle.click_scopes.specs.FaultText as wrong_use

-- the number and the name of a kind, as operators see them
abbrev pub kind_text : FaultKind → List ℕ
kind_text kind.NoMemory = codes "7 NoMemory"
kind_text (kind.Use w) = wrong_use.kind_text w
kind_text kind.TooMany = codes "16 TooMany"
kind_text kind.BrokenText = codes "17 BrokenText"
