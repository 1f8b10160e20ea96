use Rattle.click_gateway.proofs.Twice.{datagram-twice}
use Rattle.click_gateway.proofs.laws.datagrams_mirrored_twice_are_the_same.Goals as goal

pub returns : goal.returns
returns c = datagram-twice
