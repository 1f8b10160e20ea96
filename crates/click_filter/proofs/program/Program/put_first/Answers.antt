use Rattle.std.proofs.Common.{[], reverse, ◌∙◌, ap, arith}
use Rattle.std.proofs.lemmas.Result.{err_from_is_err_and}
use Rattle.click_filter.specs.Trees.{truth}
use Rattle.click_filter.specs.kept.Steps.{action_of}
use Rattle.click_filter.proofs.StepValues.{chosen_action}
use Rattle.click_filter.proofs.program.Program.put_first.Goals as goal

pub returns-in_err-self-clause-full : goal.returns-in_err-self-clause-full
returns-in_err-self-clause-full c u e =
    let r = err_from_is_err_and c.from_residual.result c.from_residual.ensures.1 in
    rw (r.1, r.2) (λ e'. let f = c.in_err-self.ensures.full u [] e e' in omega arith)

pub returns-clause-ok : goal.returns-clause-ok
returns-clause-ok c u e b =
    let p = c.in_ok-self.ensures.part u [] e in
    ap action_of (p.2 b) ∙ chosen_action (reverse c.args.self.now.steps.items) (truth u b) c.args.action c.target.result c.args.self.now.entry b c.target.ensures.value c.target.ensures.small

pub returns-clause-size : goal.returns-clause-size
returns-clause-size c u e = let p = (c.in_ok-self.ensures.part u [] e).1 in omega arith
