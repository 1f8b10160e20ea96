use Rattle.std.proofs.Common.{◌≡◌, true, false, take, length, refl, ap, sym, ◌∙◌, arith}
use Rattle.std.proofs.lemmas.Bool.Decides.{Decides-eqb}
use Rattle.std.proofs.lemmas.List.{nil_from_length}
use Rattle.click_packet.specs.Checksum.{sum_of_words, ones_sum}
use Rattle.click_packet.specs.Header.{stated_len, header_good}
use Rattle.click_packet.proofs.Headers.{header_good-fields, header_good-false, header_len-some, nobody_refused}
use Rattle.click_packet.proofs.header.is_good.Goals as goal

pub returns-then-bytes-lt20 : goal.returns-then-bytes-lt20
returns-then-bytes-lt20 c = header_good-false _ _ (λ g. omega (arith, g.long, g.there))

pub returns-then-total-lt20 : goal.returns-then-total-lt20
returns-then-total-lt20 c =
    header_good-false _ _ (λ g. omega (arith, c.if-bytes-ne69.false, c.then-total-lt20.either, c.from.ensures, c.from-2.ensures, g.holds_header, g.holds_data))

pub returns : goal.returns
returns c =
    let bytes = c.args.bytes.now in
    let stated : 20 ≡ stated_len bytes = omega (arith, c.if-bytes-ne69.false) in
    let same = ap (λ n. ones_sum (sum_of_words (take n bytes))) stated in
    let here = header_len-some bytes (omega (arith, stated)) (omega (arith, stated, c.if-bytes-lt20.false)) in
    let none = nil_from_length c.args.refused.now ((Decides-eqb (length c.args.refused.now) 0).0 (sym c.is_empty.ensures ∙ c.if-not-is_empty.false)) in
    elim c.sums_to_ones.result as (λ b. c.sums_to_ones.result ≡ b → b ≡ header_good bytes c.args.refused.now) [
      | true ↦ λ e.
          let fields = header_good-fields bytes c.args.refused.now here (omega (arith, c.if-bytes-ne69.false)) (omega (arith, stated, c.from.ensures, c.from-2.ensures, c.if-total-lt20.false)) (omega (arith, c.from.ensures, c.from-2.ensures, c.if-bytes-total.false)) (sym same ∙ c.sums_to_ones.ensures.0 e) in
          sym (fields ∙ nobody_refused bytes c.args.refused.now none)
      | false ↦ λ e. header_good-false _ _ (λ g. let right = c.sums_to_ones.ensures.1 (same ∙ g.sum) in cc)
    ] refl
