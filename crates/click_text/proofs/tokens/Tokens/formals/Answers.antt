use Rattle.std.proofs.Common.{[], refl, arith}
use Rattle.click_text.specs.kept.ParserStates.{body_opened, formal_wanted}
use Rattle.click_text.proofs.OfParser.StateTokens.{unfolded_by, otherwise}
use Rattle.click_text.proofs.OfParser.ParserSteps.{same_step, same_end}
use Rattle.click_text.proofs.tokens.Tokens.formals.Goals as goal

pub returns-in_default-clause-goes_on : goal.returns-in_default-clause-goes_on
returns-in_default-clause-goes_on c = λ n bs a u. rw c.new-formals.ensures (same_end n _ _ _ c.in_default.ensures refl)

pub returns-in_default-token : goal.returns-in_default-token
returns-in_default-token c = record {
  goes_on = λ n bs a u. rw c.new-formals.ensures (same_step n _ _ c.in-Some.token _ _ c.in-Some.ensures
      (otherwise (unfolded_by bs a u c.in-Some.token) (λ w. c.in_default-token.not-Formal w.0 w.1)));
  stops = tt;
  shorter = omega arith;
}

pub formals-init : goal.formals-init
formals-init c = record {
  same = λ n bs a u. rw c.new-formals.ensures (same_step n (body_opened bs a u) (formal_wanted bs a u []) c.in-Some.token _ _ c.in-Some.ensures (rw c.in-Formal.is refl));
  fewer = omega arith;
}
