use Rattle.std.proofs.Common.{refl}
use Rattle.click_text.proofs.OfParser.StateTokens.{over_by, neither}
use Rattle.click_text.proofs.OfParser.ParserSteps.{taken, refused, same_step, same_end}
use Rattle.click_text.proofs.tokens.Tokens.end.Goals as goal

pub returns-in_default-clause-goes_on : goal.returns-in_default-clause-goes_on
returns-in_default-clause-goes_on c = λ n bs p ss st. same_end n _ _ _ c.in_default.ensures refl

pub returns-in-Semicolon-clause-goes_on : goal.returns-in-Semicolon-clause-goes_on
returns-in-Semicolon-clause-goes_on c = λ n bs p ss st.
    (rw c.skip.ensures (taken n n _ _ c.in-Some.token _ _ c.in-Some.ensures (rw c.in-Semicolon.is refl) (rw c.in-Semicolon.is refl)))

pub returns-in-Close-clause-goes_on : goal.returns-in-Close-clause-goes_on
returns-in-Close-clause-goes_on c = λ n bs p ss st.
    same_step n _ _ c.in-Some.token _ _ c.in-Some.ensures (rw c.in-Close.is refl)

pub returns-in_default-token : goal.returns-in_default-token
returns-in_default-token c = record {
  goes_on = tt;
  stops = λ n bs p ss st. refused n _ c.in-Some.token _ _ c.in-Some.ensures
      (neither (over_by bs p ss st c.in-Some.token) (λ w. c.in_default-token.not-Semicolon w.0 w.1) (λ w. c.in_default-token.not-Close w.0 w.1));
  shorter = tt;
}
