use Rattle.click_filter.proofs.RuleLists.{after_always}
use Rattle.click_filter.proofs.laws.nothing_after_always.Goals as goal

pub returns : goal.returns
returns c front a t rest b h = after_always front a t rest b h
