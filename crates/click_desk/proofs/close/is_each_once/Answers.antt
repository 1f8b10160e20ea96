use Rattle.std.proofs.Common.{◌≡◌, ◌∙◌, sym, refl, true≢false, arith, count_by, ◌==◌}
use borrow.Author.Count.{below_more}
use Rattle.click_desk.proofs.close.is_each_once.Goals as goal

pub returns-then-count_of-ne1 : goal.returns-then-count_of-ne1
returns-then-count_of-ne1 g c = ((λ t. absurd (true≢false (sym t))), λ h. absurd (c.if-count_of-ne1.true (c.count_of.ensures ∙ h c.loop-number.number c.loop-number-test.true)))

pub loop-number-preserved : goal.loop-number-preserved
loop-number-preserved g c = below_more (λ k. count_by (λ s. s.number == k) c.args.seats.now ≡ 1) c.loop-number.number c.loop-number.invariant (sym c.count_of.ensures ∙ c.if-count_of-ne1.false)

pub returns : goal.returns
returns g c = ((λ _ k below. c.loop-number.invariant k (omega arith)), λ _. refl)
