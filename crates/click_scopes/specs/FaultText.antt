-- The texts of the kinds of misuse.
use Rattle.std.specs.Prelude.{ℕ, List, codes}
use Rattle.click_scopes.specs.declared.fault.WrongUse.{WrongUse}
use Rattle.click_scopes.specs.declared.fault.WrongUse.TheVariants as kind

-- the number and the name of a kind, as operators see them
abbrev pub kind_text : WrongUse → List ℕ
kind_text kind.UnknownName = codes "11 UnknownName"
kind_text kind.DeclaredTwice = codes "12 DeclaredTwice"
kind_text kind.UnknownClass = codes "13 UnknownClass"
kind_text kind.WrongParameters = codes "14 WrongParameters"
kind_text kind.CompoundPort = codes "15 CompoundPort"
