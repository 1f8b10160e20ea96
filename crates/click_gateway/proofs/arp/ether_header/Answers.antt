use Rattle.std.proofs.Common.{◌≡◌, ◌++◌, length, ap, ◌∙◌, arith}
use Rattle.click_gateway.proofs.Fronts.{six-front}
use Rattle.click_gateway.proofs.arp.ether_header.Goals as goal

pub returns : goal.returns
returns c =
    let a = c.args in
    let n1 : length a.to ≡ 6 = omega arith in
    let n2 : length a.from ≡ 6 = omega arith in
    six-front a.to _ n1 ∙ ap (λ l. a.to ++ l) (six-front a.from _ n2)
