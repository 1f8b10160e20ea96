use Rattle.click_text.proofs.OfParser.OneAnswer.{spelled_has_no_fault}
use Rattle.click_text.proofs.laws.spelled_has_no_fault.Goals as goal

pub returns : goal.returns
returns c = spelled_has_no_fault
