use Rattle.click_text.proofs.OfArguments.JoinedArguments.{arguments_join}
use Rattle.click_text.proofs.argument_laws.arguments_joined.Goals as goal

pub returns : goal.returns
returns c = λ text spans a. arguments_join text spans a
