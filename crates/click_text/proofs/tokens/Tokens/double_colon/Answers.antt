use Rattle.std.proofs.Common.{refl, arith}
use Rattle.click_text.proofs.OfParser.StateTokens.{worded_by, otherwise}
use Rattle.click_text.proofs.OfParser.ParserSteps.{taken, same_step, same_end}
use Rattle.click_text.proofs.tokens.Tokens.double_colon.Goals as goal

pub returns-in_default-clause-goes_on : goal.returns-in_default-clause-goes_on
returns-in_default-clause-goes_on c = λ n bs cx s. same_end n _ _ _ c.in_default.ensures refl

pub returns-in_default-token : goal.returns-in_default-token
returns-in_default-token c = record {
  goes_on = λ n bs cx s. same_step n _ _ c.in-Some.token _ _ c.in-Some.ensures
      (otherwise (worded_by bs cx s c.in-Some.token) (λ w. c.in_default-token.not-DoubleColon w.0 w.1));
  shorter = omega arith;
}

pub returns-clause-goes_on : goal.returns-clause-goes_on
returns-clause-goes_on c = λ n bs cx s.
    (rw c.skip.ensures (taken n n _ _ c.in-Some.token _ _ c.in-Some.ensures (rw c.in-DoubleColon.is refl) (rw c.in-DoubleColon.is refl)))
