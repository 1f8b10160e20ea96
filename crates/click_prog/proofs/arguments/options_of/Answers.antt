use Rattle.click_prog.proofs.Asking.{asked-of, refused-if}
use Rattle.click_prog.proofs.arguments.options_of.Goals as goal

pub returns-in-Ok-clause-asked : goal.returns-in-Ok-clause-asked
returns-in-Ok-clause-asked c = asked-of _ c.in-Ok.ensures.parsed.0 c.in-Ok.matches c.in-Ok.ensures.parsed.1 c.options_in.ensures.asked

pub returns-in-Ok-clause-refused : goal.returns-in-Ok-clause-refused
returns-in-Ok-clause-refused c = refused-if _ c.in-Ok.ensures.parsed.0 c.in-Ok.matches c.in-Ok.ensures.parsed.1 c.options_in.ensures.refused
