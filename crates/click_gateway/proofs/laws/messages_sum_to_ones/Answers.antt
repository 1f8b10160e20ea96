use Rattle.click_gateway.proofs.Messages.{message-sums}
use Rattle.click_gateway.proofs.laws.messages_sum_to_ones.Goals as goal

pub returns : goal.returns
returns c = message-sums
