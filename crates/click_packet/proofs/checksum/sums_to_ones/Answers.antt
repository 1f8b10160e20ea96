use Rattle.std.proofs.Common.{◌+◌, ◌<◌, ◌%◌, arith}
use Rattle.std.proofs.lemmas.Bool.Decides.{Decides-eqb}
use Rattle.click_packet.proofs.Quads.{quads-header, sums_by_quads}
use Rattle.click_packet.proofs.checksum.sums_to_ones.Goals as goal

pub returns : goal.returns
returns c =
    let header = c.args.header.now in
    let sum = c.sum_of_options.result + c.quad.result + c.quad-2.result + c.quad-3.result + c.quad-4.result + c.quad-5.result in
    let some : 0 < sum = omega (arith, c.quad.ensures.value, c.requires.begun) in
    let test = Decides-eqb (sum % 65535) 0 in
    let rule = sums_by_quads header sum c.requires.whole some
    (omega (arith, c.quad.ensures.value, c.quad-2.ensures.value, c.quad-3.ensures.value, c.quad-4.ensures.value, c.quad-5.ensures.value, c.sum_of_options.ensures.value, quads-header header c.requires.long)) in
    (λ t. rule.0 (test.0 t), λ s. test.1 (rule.1 s))
