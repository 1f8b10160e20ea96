use Rattle.click_classes.proofs.OfNumbers.PrefixBits.{prefix_cleared, cleared_again}
use Rattle.click_classes.proofs.laws.bits_are_cleared.Goals as goal

pub returns : goal.returns
returns c = record { prefix = prefix_cleared; again = cleared_again }
