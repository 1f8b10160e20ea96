use Rattle.click_router.proofs.OfCalls.OneOutcome.{one_answer}
use Rattle.click_router.proofs.laws.calls_have_one_answer.Goals as goal

pub returns : goal.returns
returns c = one_answer
