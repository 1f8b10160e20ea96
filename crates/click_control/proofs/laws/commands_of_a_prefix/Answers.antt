use Rattle.std.proofs.Common.{[]}
use Rattle.click_control.specs.Commands.{in_line, commands_from}
use Rattle.click_control.proofs.StreamCommands.{reading_after, commands_from-append}
use Rattle.click_control.proofs.laws.commands_of_a_prefix.Goals as goal

pub returns : goal.returns
returns c = λ bytes more. (commands_from (reading_after (in_line []) bytes) more, commands_from-append (in_line []) bytes more)
