use Rattle.std.proofs.Common.{◌∙◌, None, refl, sym, arith}
use Rattle.std.proofs.lemmas.Result.{err_from_is_err_and}
use Rattle.click_text.proofs.OfParser.GrammarRuns.{step_ported, finish_ported}
use Rattle.click_text.proofs.OfParser.StateTokens.{joined_by, bracketed_by, otherwise}
use Rattle.click_text.proofs.OfParser.ParserSteps.{taken, refused, refused_at_end, same_step, same_end, stops_from}
use Rattle.click_text.proofs.tokens.Tokens.port.Goals as goal

pub returns-in_default-clause-goes_on : goal.returns-in_default-clause-goes_on
returns-in_default-clause-goes_on c = λ n bs p ss f ls side. same_end n _ _ _ c.in_default.ensures (sym (finish_ported bs p ss f ls side None))

pub returns-in_default-token : goal.returns-in_default-token
returns-in_default-token c = record {
  goes_on = λ n bs p ss f ls side. same_step n _ _ c.in-Some.token _ _ c.in-Some.ensures
      (otherwise (joined_by bs p ss f ls side c.in-Some.token) (λ w. c.in_default-token.not-OpenBracket w.0 w.1) ∙ sym (step_ported bs p ss f ls side None c.in-Some.token));
  stops = tt;
  shorter = omega arith;
}

pub returns-in_err-number-clause-stops : goal.returns-in_err-number-clause-stops
returns-in_err-number-clause-stops c =
    let r = err_from_is_err_and c.from_residual.result c.from_residual.ensures.1 in
    rw (r.1, r.2) (λ n bs p ss f ls side. stops_from _ _ _ _
    (rw c.skip.ensures (taken n n _ _ c.in-Some.token _ _ c.in-Some.ensures (rw c.in-OpenBracket.is refl) (rw c.in-OpenBracket.is refl)))
    (c.in_err-number.ensures.stops n bs p ss f ls side c.in-OpenBracket.bracket))

pub returns-in_default-peek-clause-stops : goal.returns-in_default-peek-clause-stops
returns-in_default-peek-clause-stops c = λ n bs p ss f ls side.
    (rw c.skip.ensures (taken n n _ _ c.in-Some.token _ _ c.in-Some.ensures (rw c.in-OpenBracket.is refl) (rw c.in-OpenBracket.is refl)))
    ∙ c.in_ok-number.ensures.goes_on n bs p ss f ls side c.in-OpenBracket.bracket ∙ refused_at_end n _ _ c.in_default-peek.ensures refl

pub returns-in_default-token-2 : goal.returns-in_default-token-2
returns-in_default-token-2 c = record {
  goes_on = tt;
  stops = λ n bs p ss f ls side.
      (rw c.skip.ensures (taken n n _ _ c.in-Some.token _ _ c.in-Some.ensures (rw c.in-OpenBracket.is refl) (rw c.in-OpenBracket.is refl)))
      ∙ c.in_ok-number.ensures.goes_on n bs p ss f ls side c.in-OpenBracket.bracket
      ∙ refused n _ c.in-Some-peek.token _ _ c.in-Some-peek.ensures
      (otherwise (bracketed_by bs p ss f ls side c.in-OpenBracket.bracket c.in_ok-number.number c.in-Some-peek.token) (λ w. c.in_default-token-2.not-CloseBracket w.0 w.1));
  shorter = tt;
}

pub returns-clause-goes_on : goal.returns-clause-goes_on
returns-clause-goes_on c = λ n bs p ss f ls side.
    (rw c.skip.ensures (taken n n _ _ c.in-Some.token _ _ c.in-Some.ensures (rw c.in-OpenBracket.is refl) (rw c.in-OpenBracket.is refl)))
    ∙ c.in_ok-number.ensures.goes_on n bs p ss f ls side c.in-OpenBracket.bracket
    ∙ (rw c.skip-2.ensures (taken n n _ _ c.in-Some-peek.token _ _ c.in-Some-peek.ensures (rw c.in-CloseBracket.is refl) (rw c.in-CloseBracket.is refl)))
