use Rattle.std.proofs.Common.{arith}
use Rattle.click_packet.proofs.Sums.{ones_sum-fold}
use Rattle.click_packet.proofs.laws.words_are_added.Goals as goal

pub returns : goal.returns
returns c = ones_sum-fold c.args.bytes.now (λ i. omega (arith, c.type_inv.bytes i))
