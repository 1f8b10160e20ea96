use Rattle.std.proofs.Common.{◌+◌, ◌*◌, ◌<◌, ◌∙◌, arith}
use Rattle.click_packet.proofs.Quads.{quads-bare, checksum_by_quads}
use Rattle.click_packet.proofs.checksum.checksum_at.Goals as goal

pub returns : goal.returns
returns c =
    let header = c.args.header.now in
    let third = c.from.result + c.from-2.result * 256 in
    let sum = c.sum_of_options.result + c.quad.result + c.quad-2.result + third + c.quad-3.result + c.quad-4.result in
    let some : 0 < sum = omega (arith, c.quad.ensures.value, c.requires.begun) in
    c.to_le_bytes.ensures
    ∙ checksum_by_quads header c.args.ttl sum c.requires.whole some
    (omega (arith, c.quad.ensures.value, c.quad-2.ensures.value, c.quad-3.ensures.value, c.quad-4.ensures.value, c.sum_of_options.ensures.value, quads-bare header c.args.ttl c.requires.long))
