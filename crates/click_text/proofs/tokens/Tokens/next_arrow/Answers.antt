use Rattle.std.proofs.Common.{◌∙◌, refl, arith}
use Rattle.std.proofs.lemmas.Result.{err_from_is_err_and}
use Rattle.click_text.proofs.OfParser.StateTokens.{beyond_by, neither}
use Rattle.click_text.proofs.OfParser.ParserSteps.{taken, same_step, same_end, stops_from}
use Rattle.click_text.proofs.tokens.Tokens.next_arrow.Goals as goal

pub returns-in_default-clause-goes_on : goal.returns-in_default-clause-goes_on
returns-in_default-clause-goes_on c = λ n bs p ss f ls. same_end n _ _ _ c.in_default.ensures refl

pub returns-in-Semicolon-clause-goes_on : goal.returns-in-Semicolon-clause-goes_on
returns-in-Semicolon-clause-goes_on c = λ n bs p ss f ls.
    (rw c.skip.ensures (taken n n _ _ c.in-Some.token _ _ c.in-Some.ensures (rw c.in-Semicolon.is refl) (rw c.in-Semicolon.is refl)))

pub returns-in-Close-clause-goes_on : goal.returns-in-Close-clause-goes_on
returns-in-Close-clause-goes_on c = λ n bs p ss f ls.
    same_step n _ _ c.in-Some.token _ _ c.in-Some.ensures (rw c.in-Close.is refl)

pub returns-in_err-arrow_ports-in_default-token : goal.returns-in_err-arrow_ports-in_default-token
returns-in_err-arrow_ports-in_default-token c =
    let r = err_from_is_err_and c.from_residual.result c.from_residual.ensures.1 in
    rw (r.1, r.2) (record {
      goes_on = tt;
      stops = λ n bs p ss f ls. stops_from _ _ _ _
          (same_step n _ _ c.in-Some.token _ _ c.in-Some.ensures (neither (beyond_by bs p ss f ls c.in-Some.token) (λ w. c.in_default-token.not-Semicolon w.0 w.1) (λ w. c.in_default-token.not-Close w.0 w.1)))
          (c.in_err-arrow_ports-in_default-token.ensures.stops n bs p ss f ls);
      shorter = tt;
    })

pub returns-in_ok-arrow_ports-in_default-token : goal.returns-in_ok-arrow_ports-in_default-token
returns-in_ok-arrow_ports-in_default-token c = record {
  goes_on = λ n bs p ss f ls.
      same_step n _ _ c.in-Some.token _ _ c.in-Some.ensures (neither (beyond_by bs p ss f ls c.in-Some.token) (λ w. c.in_default-token.not-Semicolon w.0 w.1) (λ w. c.in_default-token.not-Close w.0 w.1))
      ∙ c.in_ok-arrow_ports-in_default-token.ensures.goes_on n bs p ss f ls;
  stops = tt;
  shorter = omega (arith, c.in_ok-arrow_ports-in_default-token.ensures.shorter);
}
