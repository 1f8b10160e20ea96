-- The texts of the kinds of faults.
use Rattle.std.specs.Prelude.{ℕ, List, codes}
use Rattle.click_text.specs.declared.syntax.FaultKind.{FaultKind}
use Rattle.click_text.specs.declared.syntax.FaultKind.TheVariants as kind

-- the number and the name of a kind, as operators see them
abbrev pub kind_text : FaultKind → List ℕ
kind_text kind.BadByte = codes "1 BadByte"
kind_text kind.UnclosedComment = codes "2 UnclosedComment"
kind_text kind.UnclosedString = codes "3 UnclosedString"
kind_text kind.Unexpected = codes "4 Unexpected"
kind_text kind.TooDeep = codes "5 TooDeep"
kind_text kind.TooLarge = codes "6 TooLarge"
kind_text kind.NoMemory = codes "7 NoMemory"
