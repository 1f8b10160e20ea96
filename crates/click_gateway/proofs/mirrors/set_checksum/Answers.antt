use Rattle.std.proofs.Common.{refl}
use Rattle.click_gateway.proofs.HeaderLengths.{ttl-is, with_ttl-same}
use Rattle.click_gateway.proofs.mirrors.set_checksum.Goals as goal

pub returns-in-Some-clause-sealed : goal.returns-in-Some-clause-sealed
returns-in-Some-clause-sealed c =
    let b = c.args.packet.now.bytes in
    let h = ttl-is b c.in-Some.ttl c.in-Some.ensures in
    let set = rw h.1 at c.set_ttl.ensures in
    rw (h.1, set.1, h.0, with_ttl-same b) refl
