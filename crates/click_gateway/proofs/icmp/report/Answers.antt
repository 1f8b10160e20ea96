use Rattle.std.proofs.Common.{◌≡◌, ℕ, ◌+◌, ◌≤◌, ◌∷◌, ◌++◌, true, min, length, get_or, take, refl, sym, ap, ◌∙◌, arith, length-take}
use Rattle.click_packet.specs.Header.{total_len}
use Rattle.click_gateway.specs.Icmp.{report_of, may_report}
use Rattle.click_gateway.proofs.Fronts.{four-front}
use Rattle.click_gateway.proofs.icmp.report.Goals as goal

pub send_as-requires : goal.send_as-requires
send_as-requires c =
    let b = c.args.packet.now.bytes in
    let cut : length c.truncate.new.self.bytes ≤ 548 = rw c.truncate.ensures (omega (arith, c.min.ensures, length-take c.min.result b)) in
    let put : length c.prepend_array.new.self.bytes ≡ 8 + length c.truncate.new.self.bytes = rw c.in-Ok.ensures.ok (omega arith) in
    omega (arith, c.seal.ensures.len, put, cut)

pub returns-clause-reported : goal.returns-clause-reported
unfolding report_of
returns-clause-reported c =
    let b = c.args.packet.now.bytes in
    let f = c.args.error.now.further in
    let n : length f ≡ 4 = omega arith in
    let yes : may_report b ≡ true = sym c.may_report.ensures ∙ c.if-not-may_report.false in
    let part : c.min.result ≡ min (total_len b) 548 = c.min.ensures ∙ ap (λ (n : ℕ). min n 548) c.in-Some.ensures.value.1 in
    let quoted : get_or f 0 0 ∷ get_or f 1 0 ∷ get_or f 2 0 ∷ get_or f 3 0 ∷ take (min (total_len b) 548) b ≡ f ++ take (min (total_len b) 548) b = four-front f _ n in
    rw (yes, c.send_as.ensures, c.seal.ensures.value, c.in-Ok.ensures.ok, c.truncate.ensures, c.four.ensures, c.bytes-bytes.ensures.value, part, quoted) refl
