use Rattle.std.proofs.Common.{◌≡◌, ◌++◌, take}
use Rattle.click_base.specs.Classes.{name}
use Rattle.click_router.specs.Globals.{lines_of}
use Rattle.click_router.proofs.globals.push_classes.Given as goal

abbrev pub invariant-loop-class : goal.invariant-loop-class
invariant-loop-class l = l.text.items ≡ l.initial.text.items ++ lines_of name (take l.class-index l.classes)
