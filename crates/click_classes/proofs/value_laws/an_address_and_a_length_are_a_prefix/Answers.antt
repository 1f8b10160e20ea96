use Rattle.click_classes.proofs.OfArguments.PrefixTexts.{prefix-whole, prefix-cut}
use Rattle.click_classes.proofs.value_laws.an_address_and_a_length_are_a_prefix.Goals as goal

pub returns : goal.returns
returns c = record { cut = prefix-cut; whole = prefix-whole }
