use Rattle.click_classes.proofs.GoodHeaders.{pass-good}
use Rattle.click_classes.proofs.laws.aged_header_is_good.Goals as goal

pub returns : goal.returns
returns c = pass-good
