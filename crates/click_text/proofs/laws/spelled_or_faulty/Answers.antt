use Rattle.click_text.proofs.OfParser.TextOutcome.{spelled_or_faulty}
use Rattle.click_text.proofs.laws.spelled_or_faulty.Goals as goal

pub returns : goal.returns
returns c = spelled_or_faulty
