use Rattle.click_filter.proofs.RuleLists.{exchanged}
use Rattle.click_filter.proofs.laws.neighbours_are_exchanged.Goals as goal

pub returns : goal.returns
returns c front a s t rest b = exchanged front a s t rest b
