use Rattle.std.proofs.Common.{sym, subst}
use Rattle.click_expand.specs.kept.Answered.{IsRefused}
use Rattle.click_expand.proofs.OfAnswers.FlatForms.{first-refused}
use Rattle.click_expand.proofs.flattening.flat_of.Goals as goal

pub returns-in-Err-clause-err : goal.returns-in-Err-clause-err
returns-in-Err-clause-err c = subst (IsRefused c.args.config.now) (sym c.refusal_of.ensures) (first-refused c.args.config.now c.in-Err.fault c.in-Err.ensures.err)
