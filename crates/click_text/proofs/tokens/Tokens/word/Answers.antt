use Rattle.std.proofs.Common.{refl}
use Rattle.click_text.proofs.OfParser.StateTokens.{named_by, defined_by, otherwise}
use Rattle.click_text.proofs.OfParser.ParserSteps.{taken, refused, refused_at_end}
use Rattle.click_text.proofs.tokens.Tokens.word.Goals as goal

pub returns-in_default-clause-stops : goal.returns-in_default-clause-stops
returns-in_default-clause-stops c = λ n bs p ss ns. refused_at_end n _ _ c.in_default.ensures refl

pub returns-in_default-clause-stops_defining : goal.returns-in_default-clause-stops_defining
returns-in_default-clause-stops_defining c = λ n bs p ss. refused_at_end n _ _ c.in_default.ensures refl

pub returns-in_default-token : goal.returns-in_default-token
returns-in_default-token c = record {
  goes_on = tt;
  stops = λ n bs p ss ns. refused n _ c.in-Some.token _ _ c.in-Some.ensures
      (otherwise (named_by bs p ss ns c.in-Some.token) (λ w. c.in_default-token.not-Word w.0 w.1));
  defines = tt;
  stops_defining = λ n bs p ss. refused n _ c.in-Some.token _ _ c.in-Some.ensures
      (otherwise (defined_by bs p ss c.in-Some.token) (λ w. c.in_default-token.not-Word w.0 w.1));
  shorter = tt;
}

pub returns-clause-goes_on : goal.returns-clause-goes_on
returns-clause-goes_on c = λ n bs p ss ns.
    (rw c.skip.ensures (taken n n _ _ c.in-Some.token _ _ c.in-Some.ensures (rw c.in-Word.is refl) (rw c.in-Word.is refl)))

pub returns-clause-defines : goal.returns-clause-defines
returns-clause-defines c = λ n bs p ss.
    (rw c.skip.ensures (taken n n _ _ c.in-Some.token _ _ c.in-Some.ensures (rw c.in-Word.is refl) (rw c.in-Word.is refl)))
