use Rattle.std.proofs.Common.{◌≡◌, ℕ, ◌+◌, ◌<◌, List, length, get_or, true, false, sym, ◌∙◌, ap, arith}
use Rattle.std.proofs.lemmas.List.{get_or_default}
use Rattle.click_filter.specs.declared.step.Step.{Step}
use Rattle.click_filter.specs.declared.test.Test.{Test}
use Rattle.click_filter.specs.declared.test.Test.TheVariants as test
use Rattle.click_filter.specs.Tests.{holds}
use Rattle.click_filter.proofs.StepValues.{Older, older_targets, past_test}
use Rattle.click_filter.proofs.building.past.Goals as goal

-- what is read past the last step
abbrev blank : Step
blank = record { test = test.Constant false; yes = 0; no = 0 }

pub returns-then-outcome-clause-same : goal.returns-then-outcome-clause-same
returns-then-outcome-clause-same c b o =
    let xs = c.args.steps.now in
    let k = c.from.result in
    let s : Step = get_or xs k blank in
    let e = c.from.ensures in
    let f = c.if-target-lt-FIRST_STEP.false in
    let t = c.requires.target in
    let h : k < length xs = omega arith in
    let place : c.args.target ≡ k + 257 = omega arith in
    let same : s.test ≡ c.args.test = c.is_same.ensures c.if-not-is_same.false in
    past_test xs k c.args.target s true b place h (get_or_default xs k blank s h) c.requires.forward (ap (λ (x : Test). holds x b) same ∙ o ∙ c.if-outcome.true)

pub returns-then-outcome-clause-within : goal.returns-then-outcome-clause-within
returns-then-outcome-clause-within c =
    let xs = c.args.steps.now in
    let k = c.from.result in
    let e = c.from.ensures in
    let f = c.if-target-lt-FIRST_STEP.false in
    let t = c.requires.target in
    let h : k < length xs = omega arith in
    let q : Older k (get_or xs k blank) = older_targets xs k (get_or xs k blank) h (get_or_default xs k blank (get_or xs k blank) h) c.requires.forward in
    let a = q.at_yes in
    omega arith

pub returns-else-outcome-clause-same : goal.returns-else-outcome-clause-same
returns-else-outcome-clause-same c b o =
    let xs = c.args.steps.now in
    let k = c.from.result in
    let s : Step = get_or xs k blank in
    let e = c.from.ensures in
    let f = c.if-target-lt-FIRST_STEP.false in
    let t = c.requires.target in
    let h : k < length xs = omega arith in
    let place : c.args.target ≡ k + 257 = omega arith in
    let same : s.test ≡ c.args.test = c.is_same.ensures c.if-not-is_same.false in
    past_test xs k c.args.target s false b place h (get_or_default xs k blank s h) c.requires.forward (ap (λ (x : Test). holds x b) same ∙ o ∙ c.if-outcome.false)

pub returns-else-outcome-clause-within : goal.returns-else-outcome-clause-within
returns-else-outcome-clause-within c =
    let xs = c.args.steps.now in
    let k = c.from.result in
    let e = c.from.ensures in
    let f = c.if-target-lt-FIRST_STEP.false in
    let t = c.requires.target in
    let h : k < length xs = omega arith in
    let q : Older k (get_or xs k blank) = older_targets xs k (get_or xs k blank) h (get_or_default xs k blank (get_or xs k blank) h) c.requires.forward in
    let a = q.at_no in
    omega arith
