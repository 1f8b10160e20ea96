use Rattle.click_packet.proofs.Sums.{ones_sum-IsOnesSum, IsOnesSum-once}
use Rattle.click_packet.proofs.laws.sum_is_one_word.Goals as goal

pub returns-clause-word : goal.returns-clause-word
returns-clause-word c = ones_sum-IsOnesSum

pub returns-clause-only : goal.returns-clause-only
returns-clause-only c = IsOnesSum-once
