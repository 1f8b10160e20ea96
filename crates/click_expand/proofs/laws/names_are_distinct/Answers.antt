use Rattle.click_expand.proofs.OfLaws.OwnElements.{distinct-names}
use Rattle.click_expand.proofs.laws.names_are_distinct.Goals as goal

pub returns : goal.returns
returns c = λ config flat i j e f h. distinct-names config flat i j e f h
