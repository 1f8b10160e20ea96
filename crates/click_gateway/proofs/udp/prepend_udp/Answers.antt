use Rattle.std.proofs.Common.{◌≡◌, ℕ, ◌+◌, ◌-◌, ◌/◌, ◌%◌, ◌∷◌, ◌++◌, length, get_or, take, refl, ap, ◌∙◌, arith, length-append}
use Rattle.std.proofs.Math.Seq.{take-length}
use Rattle.click_packet.specs.Checksum.{sum_of_words, ones_sum}
use Rattle.click_gateway.specs.Udp.{with_pseudo_header, segment_with, segment}
use Rattle.click_gateway.proofs.Fronts.{four-front}
use Rattle.click_gateway.proofs.udp.prepend_udp.Goals as goal

pub returns-clause-value : goal.returns-clause-value
unfolding segment
returns-clause-value c =
    let t = c.args.tunnel.now in
    let b = c.args.packet.now.bytes in
    let len = length b + 8 in
    let bare = segment_with t.source_port t.destination_port 0 b in
    let all = with_pseudo_header t.source t.destination len bare in
    let n1 : length t.source ≡ 4 = omega arith in
    let n2 : length t.destination ≡ 4 = omega arith in
    let rest = 0 ∷ 17 ∷ (len / 256) ∷ (len % 256) ∷ bare in
    let front : get_or t.source 0 0 ∷ get_or t.source 1 0 ∷ get_or t.source 2 0 ∷ get_or t.source 3 0 ∷ get_or t.destination 0 0 ∷ get_or t.destination 1 0
    ∷ get_or t.destination 2 0 ∷ get_or t.destination 3 0 ∷ rest ≡ all =
    four-front t.source _ n1 ∙ ap (λ l. t.source ++ l) (four-front t.destination rest n2) in
    let a1 = length-append t.source (t.destination ++ rest) in
    let a2 = length-append t.destination rest in
    let count : len + 12 - 0 ≡ length all = omega (arith, a1, a2, n1, n2) in
    let whole : take (len + 12 - 0) all ≡ all = ap (λ (n : ℕ). take n all) count ∙ take-length all in
    let sum : c.ones_sum.result ≡ ones_sum (sum_of_words all) =
    rw (c.ones_sum.ensures, c.in-Ok.ensures.ok, c.bytes.ensures.value, front, whole) refl in
    rw (c.write.ensures, c.strip.ensures, c.in-Ok.ensures.ok, c.bytes.ensures.value, c.sent_sum-sum.ensures, sum) refl
