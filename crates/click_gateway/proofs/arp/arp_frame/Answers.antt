use Rattle.std.proofs.Common.{◌≡◌, ◌++◌, length, ap, ◌∙◌, arith}
use Rattle.click_gateway.specs.Arp.{arp_format}
use Rattle.click_gateway.proofs.Fronts.{six-front, four-front, four-bytes}
use Rattle.click_gateway.proofs.arp.arp_frame.Goals as goal

pub returns : goal.returns
returns c =
    let a = c.args in
    let n1 : length a.to ≡ 6 = omega arith in
    let n2 : length a.ether ≡ 6 = omega arith in
    let n3 : length a.ip ≡ 4 = omega arith in
    let n4 : length a.target_ether ≡ 6 = omega arith in
    let n5 : length a.target_ip ≡ 4 = omega arith in
    six-front a.to _ n1
    ∙ ap (λ l. a.to ++ l) (six-front a.ether _ n2
    ∙ ap (λ l. a.ether ++ (arp_format a.opcode ++ l)) (six-front a.ether _ n2
    ∙ ap (λ l. a.ether ++ l) (four-front a.ip _ n3
    ∙ ap (λ l. a.ip ++ l) (six-front a.target_ether _ n4
    ∙ ap (λ l. a.target_ether ++ l) (four-bytes a.target_ip n5)))))
