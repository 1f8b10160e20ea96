use Rattle.std.proofs.Common.{refl}
use Rattle.click_prog.proofs.arguments.parsed.Goals as goal

pub returns-clause-text : goal.returns-clause-text
returns-clause-text c = c.in_ok-matches.ensures.values.0 refl
