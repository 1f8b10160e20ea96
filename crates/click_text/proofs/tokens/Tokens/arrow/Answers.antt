use Rattle.std.proofs.Common.{refl}
use Rattle.click_text.proofs.OfParser.StateTokens.{arrowed_by, otherwise}
use Rattle.click_text.proofs.OfParser.ParserSteps.{taken, refused, refused_at_end}
use Rattle.click_text.proofs.tokens.Tokens.arrow.Goals as goal

pub returns-in_default-clause-stops : goal.returns-in_default-clause-stops
returns-in_default-clause-stops c = λ n bs p ss f ls q. refused_at_end n _ _ c.in_default.ensures refl

pub returns-in_default-token : goal.returns-in_default-token
returns-in_default-token c = record {
  goes_on = tt;
  stops = λ n bs p ss f ls q. refused n _ c.in-Some.token _ _ c.in-Some.ensures (otherwise (arrowed_by bs p ss f ls q c.in-Some.token) (λ w. c.in_default-token.not-Arrow w.0 w.1));
  shorter = tt;
}

pub returns-clause-goes_on : goal.returns-clause-goes_on
returns-clause-goes_on c = λ n bs p ss f ls q.
    rw c.skip.ensures (taken n n _ _ c.in-Some.token _ _ c.in-Some.ensures (rw c.in-Arrow.is refl) (rw c.in-Arrow.is refl))
