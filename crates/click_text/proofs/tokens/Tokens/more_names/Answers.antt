use Rattle.std.proofs.Common.{refl}
use Rattle.click_text.proofs.OfParser.StateTokens.{names_by, neither}
use Rattle.click_text.proofs.OfParser.ParserSteps.{taken, refused, refused_at_end}
use Rattle.click_text.proofs.tokens.Tokens.more_names.Goals as goal

pub returns-in_default-clause-stops : goal.returns-in_default-clause-stops
returns-in_default-clause-stops c = λ n bs p ss ns. refused_at_end n _ _ c.in_default.ensures refl

pub returns-in-Comma-clause-goes_on : goal.returns-in-Comma-clause-goes_on
returns-in-Comma-clause-goes_on c = λ n bs p ss ns.
    (rw c.skip.ensures (taken n n _ _ c.in-Some.token _ _ c.in-Some.ensures (rw c.in-Comma.is refl) (rw c.in-Comma.is refl)))

pub returns-in-DoubleColon-clause-goes_on : goal.returns-in-DoubleColon-clause-goes_on
returns-in-DoubleColon-clause-goes_on c = λ n bs p ss ns.
    (rw c.skip-in-DoubleColon.ensures (taken n n _ _ c.in-Some.token _ _ c.in-Some.ensures (rw c.in-DoubleColon.is refl) (rw c.in-DoubleColon.is refl)))

pub returns-in_default-token : goal.returns-in_default-token
returns-in_default-token c = record {
  goes_on = tt;
  stops = λ n bs p ss ns. refused n _ c.in-Some.token _ _ c.in-Some.ensures
      (neither (names_by bs p ss ns c.in-Some.token) (λ w. c.in_default-token.not-Comma w.0 w.1) (λ w. c.in_default-token.not-DoubleColon w.0 w.1));
  shorter = tt;
}
