use Rattle.click_desk.proofs.LawfulHistories.{no_trace}
use Rattle.click_desk.proofs.laws.refused_swaps_leave_no_trace.Goals as goal

pub returns : goal.returns
returns c = no_trace
