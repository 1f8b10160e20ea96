use Rattle.std.proofs.Common.{◌<◌, sym, ap, ◌∙◌, arith}
use Rattle.click_packet.specs.Checksum.{ones_sum}
use Rattle.click_packet.proofs.Sums.{ones_sum-zero, ones_sum-positive}
use Rattle.click_packet.proofs.checksum.ones_sum_of.Goals as goal

pub returns-then-sum-eq0 : goal.returns-then-sum-eq0
returns-then-sum-eq0 c = sym (ap ones_sum (sym c.sum_of_words_in-sum.ensures.value ∙ c.if-sum-eq0.true) ∙ ones_sum-zero)

pub returns : goal.returns
returns c =
    let positive : 0 < c.sum_of_words_in-sum.result = omega (arith, c.if-sum-eq0.false) in
    sym (ap ones_sum (sym c.sum_of_words_in-sum.ensures.value) ∙ ones_sum-positive c.sum_of_words_in-sum.result positive)
