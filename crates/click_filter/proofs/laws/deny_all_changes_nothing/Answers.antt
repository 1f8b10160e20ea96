use Rattle.click_filter.proofs.RuleLists.{denied_last}
use Rattle.click_filter.proofs.laws.deny_all_changes_nothing.Goals as goal

pub returns : goal.returns
returns c rules b = denied_last rules b
