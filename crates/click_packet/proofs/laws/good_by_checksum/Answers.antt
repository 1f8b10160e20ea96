use Rattle.std.proofs.Common.{◌<◌, get_or, arith}
use Rattle.click_packet.proofs.Headers.{sums_by_checksum}
use Rattle.click_packet.proofs.laws.good_by_checksum.Goals as goal

pub returns : goal.returns
returns c = λ long.
    let header = c.args.header.now in
    let high : get_or header 10 0 < 256 = omega (arith, c.type_inv.header 10) in
    let low : get_or header 11 0 < 256 = omega (arith, c.type_inv.header 11) in
    sums_by_checksum header (omega arith) (omega arith)
