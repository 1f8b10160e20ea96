use Rattle.std.proofs.Common.{take}
use Rattle.std.specs.List.{AllZip}
use Rattle.click_cli.proofs.ArgumentLists.{IsArgument}
use Rattle.click_cli.proofs.options.parse.Given as goal

abbrev pub invariant-loop-option : goal.invariant-loop-option
invariant-loop-option l = AllZip IsArgument (take l.option-index l.options) l.arguments.items
