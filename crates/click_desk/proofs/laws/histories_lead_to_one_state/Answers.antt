use Rattle.click_desk.proofs.LawfulHistories.{one_state}
use Rattle.click_desk.proofs.laws.histories_lead_to_one_state.Goals as goal

pub returns : goal.returns
returns c = one_state
