use Rattle.std.proofs.Common.{◌≡◌, ℕ, ◌-◌, ◌∷◌, length, take, drop, refl, ap, ◌∙◌, arith, length-drop}
use Rattle.std.proofs.Math.Seq.{take-length}
use Rattle.click_gateway.specs.Icmp.{message}
use Rattle.click_gateway.proofs.icmp.seal.Goals as goal

pub returns-clause-value : goal.returns-clause-value
unfolding message
returns-clause-value c =
    let all = c.args.kind ∷ c.args.code ∷ 0 ∷ 0 ∷ drop 4 c.args.packet.now.bytes in
    let count : length all - 0 ≡ length all = omega arith in
    let whole : take (length all - 0) all ≡ all = ap (λ (n : ℕ). take n all) count ∙ take-length all in
    rw (c.write-2.ensures, c.ones_sum-sum.ensures, c.bytes.ensures.value, c.write.ensures, whole) refl

pub returns-clause-len : goal.returns-clause-len
returns-clause-len c =
    let b = c.args.packet.now.bytes in
    let n = length-drop 4 b in
    rw (c.write-2.ensures, c.write.ensures) (omega (arith, n, c.requires))
