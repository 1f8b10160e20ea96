use Rattle.std.proofs.Common.{◌≡◌, ◌+◌, ◌-◌, length, subst, arith}
use Rattle.click_classes.specs.declared.values.pattern.Clause.{Clause}
use Rattle.click_classes.specs.kept.Masks.{IsTest}
use Rattle.click_classes.proofs.OfPatterns.StepLists.{TestsSoFar, tests_begin, tests_more, tests_end}
use Rattle.click_classes.proofs.patterns.tests_of.Goals as goal

pub loop-at-init : goal.loop-at-init
loop-at-init c =
    let clauses = c.as_slice-clauses.result.now in
    record { within = omega arith; so_far = rw c.new-tests.ensures (tests_begin clauses (length clauses) (omega arith)) }

pub loop-at-preserved : goal.loop-at-preserved
loop-at-preserved c =
    let clauses = c.as_slice-clauses.result.now in
    let at = c.loop-at.at - 1 in
    let test = c.in_ok-test_of.field-0 in
    let within = c.loop-at.invariant.within in
    let some = c.loop-at-test.true in
    let next : c.loop-at.at ≡ at + 1 = omega arith in
    let so_far : TestsSoFar clauses (at + 1) c.loop-at.tests = subst (λ n. TestsSoFar clauses n c.loop-at.tests) next c.loop-at.invariant.so_far in
    record {
      within = omega arith;
      so_far = rw c.in_ok-push.ensures.ok (tests_more clauses at c.loop-at.tests test _ (omega arith)
          (subst (λ (x : Clause). IsTest x test) c.index-clauses-at.is c.in_ok-test_of.ensures) so_far);
    }

pub returns : goal.returns
returns c =
    let none : c.loop-at.at ≡ 0 = let end = c.loop-at-test.false in omega arith in
    tests_end c.args.pattern.now c.as_slice-clauses.result.now c.loop-at.tests c.as_slice-clauses.ensures
    (subst (λ n. TestsSoFar c.as_slice-clauses.result.now n c.loop-at.tests) none c.loop-at.invariant.so_far)
