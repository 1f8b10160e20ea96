use Rattle.std.proofs.Common.{refl}
use Rattle.clap.proofs.CallerLemmas.{some_of_text}
use Rattle.click_prog.proofs.calls.arguments.options_of.Goals as goal

pub returns-clause-text : goal.returns-clause-text
returns-clause-text c =
    some_of_text _ c.options_in.result.text _ c.options_in.ensures.text (c.in_ok-matches.ensures.values.0 refl)
