use Rattle.click_expand.proofs.OfLaws.OwnElements.{ends-within}
use Rattle.click_expand.proofs.laws.ends_are_elements.Goals as goal

pub returns : goal.returns
returns c = λ config flat k h. ends-within config flat k h
