use Rattle.std.proofs.Common.{refl}
use Rattle.clap.proofs.CallerLemmas.{some_of_text}
use Rattle.click_prog.proofs.pcap.arguments.options_of.Goals as goal

pub returns-clause-text : goal.returns-clause-text
returns-clause-text c = some_of_text _ c.get_str.result _ c.get_str.ensures (c.in_ok-matches.ensures.values.0 refl)

pub returns-clause-source : goal.returns-clause-source
returns-clause-source c = some_of_text _ c.get_str-2.result _ c.get_str-2.ensures (c.in_ok-matches.ensures.values.1.0 refl)

pub returns-clause-sink : goal.returns-clause-sink
returns-clause-sink c = some_of_text _ c.get_str-3.result _ c.get_str-3.ensures (c.in_ok-matches.ensures.values.1.1.0 refl)
