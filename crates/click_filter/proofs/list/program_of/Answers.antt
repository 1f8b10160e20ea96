use Rattle.std.proofs.lemmas.Result.{err_from_is_err_and}
use Rattle.click_filter.specs.Programs.{decides, size}
use Rattle.click_filter.proofs.RuleLists.{extended, too_many}
use Rattle.click_filter.proofs.list.program_of.Goals as goal

pub loop-rule-preserved : goal.loop-rule-preserved
loop-rule-preserved c rs h =
    extended c.pop.new.self.items c.loop-rule.rules.items c.in-Some.rule rs (decides c.loop-rule.program) (size c.loop-rule.program) (c.loop-rule.invariant rs h) c.in-Some.ensures.items
    (decides c.put_first.new.self) (size c.put_first.new.self) c.in_ok-put_first.ensures.ok c.in_ok-put_first.ensures.size

pub returns-in_err-put_first-clause-full : goal.returns-in_err-put_first-clause-full
returns-in_err-put_first-clause-full c rs h =
    let r = err_from_is_err_and c.from_residual.result c.from_residual.ensures.1 in
    rw (r.1, r.2) (λ e. too_many c.pop.new.self.items c.loop-rule.rules.items c.in-Some.rule rs (decides c.loop-rule.program) (size c.loop-rule.program) (c.loop-rule.invariant rs h) c.in-Some.ensures.items
    (λ t q. c.in_err-put_first.ensures.full t q e))
