use Rattle.click_text.proofs.OfArguments.JoinedArguments.{arguments_order}
use Rattle.click_text.proofs.argument_laws.arguments_in_order.Goals as goal

pub returns : goal.returns
returns c = λ text spans a. arguments_order text spans a
