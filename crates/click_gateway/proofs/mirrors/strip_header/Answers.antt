use Rattle.std.proofs.Common.{refl}
use Rattle.click_gateway.proofs.HeaderLengths.{header_len-is}
use Rattle.click_gateway.proofs.mirrors.strip_header.Goals as goal

pub returns-clause-stripped : goal.returns-clause-stripped
returns-clause-stripped c =
    let h = c.in-Some.ensures.value in
    let n = header_len-is c.args.packet.now.bytes c.in-Some.len h in
    rw (← h, c.strip.ensures, n) refl
