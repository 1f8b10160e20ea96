use Rattle.std.proofs.Common.{arith, length-append, length-take, length-drop}
use Rattle.click_gateway.proofs.mirrors.exchange_addresses.Goals as goal

pub returns-clause-len : goal.returns-clause-len
returns-clause-len c =
    rw c.write.ensures (simp (length-append, length-take, length-drop) (omega (arith, c.requires)))
