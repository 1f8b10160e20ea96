use Rattle.click_text.proofs.OfArguments.StringTexts.{nothing_open}
use Rattle.click_text.proofs.argument_laws.nothing_open.Goals as goal

pub returns : goal.returns
returns c = λ text items h r. nothing_open text items h r
