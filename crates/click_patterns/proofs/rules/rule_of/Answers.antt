use Rattle.std.proofs.lemmas.Result.{err_from_is_err_and, IfErr-weaker}
use Rattle.click_patterns.proofs.rules.rule_of.Goals as goal

pub returns-in_err-pattern-in-PatternAlone-clause-err : goal.returns-in_err-pattern-in-PatternAlone-clause-err
returns-in_err-pattern-in-PatternAlone-clause-err c =
    let r = err_from_is_err_and c.from_residual.result c.from_residual.ensures.1 in
    rw (r.1, r.2, c.in-PatternAlone.is) (λ h s k. c.in_err-pattern-in-PatternAlone.ensures.err h s.1 k.1)

pub returns-in-WithAction-clause-err : goal.returns-in-WithAction-clause-err
returns-in-WithAction-clause-err c =
    rw c.in-WithAction.is (IfErr-weaker c.parse_rule.result _ _ (λ e never h r s. never h r.0 r.1 s) c.parse_rule.ensures.err)
