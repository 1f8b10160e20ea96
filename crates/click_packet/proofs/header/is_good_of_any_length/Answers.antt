use Rattle.std.proofs.Common.{◌≡◌, ◌*◌, ap, sym, ◌∙◌, take, arith}
use Rattle.click_packet.specs.Checksum.{sum_of_words, ones_sum}
use Rattle.click_packet.specs.Header.{stated_len}
use Rattle.click_packet.proofs.Headers.{header_good-fields, header_good-false, header_len-some}
use Rattle.click_packet.proofs.header.is_good_of_any_length.Goals as goal

pub returns-then-bytes-lt20 : goal.returns-then-bytes-lt20
returns-then-bytes-lt20 c = header_good-false _ _ (λ g. omega (arith, g.long, g.there))

pub returns-then-first-lt69 : goal.returns-then-first-lt69
returns-then-first-lt69 c =
    header_good-false _ _ (λ g. omega (arith, c.from-len.ensures, c.from.ensures, c.from-2.ensures, g.version, g.long, g.holds_header, g.holds_data))

pub returns-then-not-sums_to_ones : goal.returns-then-not-sums_to_ones
returns-then-not-sums_to_ones c =
    let bytes = c.args.bytes.now in
    let stated : c.from-len.result * 4 ≡ stated_len bytes = omega (arith, c.from-len.ensures) in
    let same = ap (λ n. ones_sum (sum_of_words (take n bytes))) stated in
    header_good-false _ _ (λ g. let right = c.sums_to_ones.ensures.1 (same ∙ g.sum) in cc)

pub returns : goal.returns
returns c =
    let bytes = c.args.bytes.now in
    let stated : c.from-len.result * 4 ≡ stated_len bytes = omega (arith, c.from-len.ensures) in
    let here = header_len-some bytes (omega (arith, stated)) (omega (arith, stated)) in
    let right = c.sums_to_ones.ensures.0 c.if-not-sums_to_ones.false in
    let sums : ones_sum (sum_of_words (take (stated_len bytes) bytes)) ≡ 65535 = sym (ap (λ n. ones_sum (sum_of_words (take n bytes))) stated) ∙ right in
    c.is_welcome.ensures
    ∙ sym (header_good-fields bytes c.args.refused.now here (omega arith) (omega (arith, stated)) (omega (arith, stated)) sums)
