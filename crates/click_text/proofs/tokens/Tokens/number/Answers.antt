use Rattle.std.proofs.Common.{Some, refl}
use Rattle.click_text.proofs.OfParser.StateTokens.{numbered_by, otherwise}
use Rattle.click_text.proofs.OfParser.ParserSteps.{taken, refused, refused_at_end}
use Rattle.click_text.proofs.tokens.Tokens.number.Goals as goal

pub returns-in_default-clause-stops : goal.returns-in_default-clause-stops
returns-in_default-clause-stops c = λ n bs p ss f ls side a. refused_at_end n _ _ c.in_default.ensures refl

pub returns-in_default-token : goal.returns-in_default-token
returns-in_default-token c = record {
  goes_on = tt;
  stops = λ n bs p ss f ls side a. refused n _ c.in-Some.token _ _ c.in-Some.ensures
      (otherwise (numbered_by bs p ss f ls side a c.in-Some.token) (λ w. c.in_default-token.not-Number (Some w.0) w.1 w.2));
  shorter = tt;
}

pub returns-in_default-number-clause-stops : goal.returns-in_default-number-clause-stops
returns-in_default-number-clause-stops c = λ n bs p ss f ls side a.
    refused n _ c.in-Some.token _ _ c.in-Some.ensures (rw (c.in-Number.is, c.in_default-number.is) refl)

pub returns-clause-goes_on : goal.returns-clause-goes_on
returns-clause-goes_on c = λ n bs p ss f ls side a.
    rw c.skip.ensures (taken n n _ _ c.in-Some.token _ _ c.in-Some.ensures (rw (c.in-Number.is, c.in-Some-number.is) refl) (rw c.in-Number.is refl))
