use Rattle.click_classes.proofs.OfArguments.PrefixTexts.{ethernet-read}
use Rattle.click_classes.proofs.value_laws.six_pairs_joined_by_colons_are_an_ethernet_address.Goals as goal

pub returns : goal.returns
returns c = ethernet-read
