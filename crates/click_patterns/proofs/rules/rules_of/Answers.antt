use Rattle.std.proofs.Common.{◌∙◌, List, ℕ, subst}
use Rattle.std.proofs.lemmas.Result.{err_from_is_err_and}
use Rattle.click_filter.specs.Rules.{Ruling}
use Rattle.click_patterns.specs.RuleLists.{IsSpelled}
use Rattle.click_patterns.proofs.RuleReading.{reading_more, reading_all, none_spelled}
use Rattle.click_patterns.proofs.rules.rules_of.Goals as goal

pub returns-in_err-rule-clause-err : goal.returns-in_err-rule-clause-err
returns-in_err-rule-clause-err c =
    let r = err_from_is_err_and c.from_residual.result c.from_residual.ensures.1 in
    rw (r.1, r.2) (λ h. none_spelled c.args.form c.args.texts.now c.texts.at c.index-texts-at.result c.texts-test.true
    (subst (λ (x : List ℕ). (r : Ruling) → IsSpelled c.args.form c.texts.at x r → ⊥) (c.as_slice.ensures ∙ c.index-texts-at.is) (c.in_err-rule.ensures.err h)))

pub texts-preserved : goal.texts-preserved
texts-preserved c =
    let e = c.in_ok-rule.ensures.ok in
    rw c.in_ok-push.ensures.items (reading_more c.args.form c.args.texts.now c.texts.at c.texts.rules.items c.in_ok-rule.rule e.0 c.index-texts-at.result c.texts-test.true
    (subst (λ (x : List ℕ). IsSpelled c.args.form c.texts.at x (c.in_ok-rule.rule.action, e.0)) (c.as_slice.ensures ∙ c.index-texts-at.is) e.1) e.2 c.texts.invariant)

pub returns-clause-ok : goal.returns-clause-ok
returns-clause-ok c = reading_all c.args.form c.args.texts.now c.texts.at c.texts.rules.items c.texts-test.false c.texts.invariant
