use Rattle.click_patterns.proofs.OneTokenList.{one_list}
use Rattle.click_patterns.proofs.laws.one_token_list.Goals as goal

pub returns : goal.returns
returns c text ts us a b = one_list a b
