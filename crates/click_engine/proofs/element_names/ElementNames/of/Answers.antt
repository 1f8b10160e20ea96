use Rattle.std.proofs.Common.{◌<◌, ◌≡◌, ◌∙◌, ◌+◌, ◌-◌, ap, length, drop, cond, Some, nat_eq, arith}
use Rattle.std.specs.HashMap.{get}
use Rattle.click_engine.specs.kept.Sums.{first_with_sum, sum_of}
use Rattle.click_engine.proofs.OfNames.FirstNames.{one_more}
use Rattle.click_engine.proofs.element_names.ElementNames.of.Goals as goal

pub loop-at-preserved : goal.loop-at-preserved
loop-at-preserved c = λ sum.
    let at = c.loop-at.at - 1 in let names = c.args.net.now.names in let n = c.name.result.now in
    let inside : at < length names = omega (arith, c.loop-at-test.true, ap length c.shapes-count.ensures.value, c.shapes-count.ensures.sound.named) in
    let next : first_with_sum sum c.loop-at.at (drop c.loop-at.at names) ≡ first_with_sum sum (at + 1) (drop (at + 1) names) =
    ap (λ k. first_with_sum sum k (drop k names)) (omega (arith, c.loop-at-test.true)) in
    c.in_ok-insert.ensures.updates.0 sum
    ∙ ap (λ s. cond (nat_eq s sum) (Some at) (get nat_eq c.loop-at.first sum)) c.sum_of.ensures
    ∙ ap (cond (nat_eq (sum_of n) sum) (Some at)) (c.loop-at.invariant sum ∙ next)
    ∙ one_more names at n sum inside c.name.ensures.value
